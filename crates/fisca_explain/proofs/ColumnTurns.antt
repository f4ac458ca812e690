-- Columns are explained one after another.
use Rattle.std.proofs.Common.{◌≡◌, ◌∙◌, ◌++◌, ◌∷◌, [], ℕ, List, Option, Some, None, Ok, Err, append-nil, append_assoc, ap, map, refl, subst, sym}
use Rattle.std.specs.Io.KnownBytes.{Appends}
use Rattle.fisca_model.specs.Seen.{key_seen}
use Rattle.fisca_model.specs.Values.{Key}
use Rattle.fisca_model.specs.declared.eval_fault.EvalFault.{EvalFault}
use Rattle.fisca_model.specs.declared.eval_fault.EvalFault.TheVariants.{Memory}
use Rattle.fisca_model.specs.declared.key.Key.{Key as Held}
use Rattle.fisca_simulation.specs.Told.{told_in}
use Rattle.fisca_writer.proofs.Grown.{trans}
use Rattle.fisca_explain.specs.Columns.{Explaining, ExplainsAll, HasValue, IsExplained, column_told, followed_in}
use Rattle.fisca_explain.specs.Followed.{HasJust}
use Rattle.fisca_explain.specs.Walks.{IsColumnTold}
use Rattle.fisca_explain.specs.declared.explain.ExplainFault.{ExplainFault}
use Rattle.fisca_explain.specs.declared.explain.ExplainFault.TheVariants as end
use Rattle.fisca_explain.specs.declared.keys.Followed.{Followed}
use Rattle.fisca_explain.proofs.Columns.{followed_more, one_more}

appends_nothing : (o : Option (List ℕ)) → Appends o o []
appends_nothing None = tt
appends_nothing (Some a) = sym (append-nil a)

-- the columns before these are explained in the sink
pub record AreExplained (x : Explaining) (columns left : List Held) (old now : Option (List ℕ)) (f : Followed) : Type 0 where
  pub done : List Key
  pub text : List ℕ
  pub are : map key_seen columns ≡ done ++ map key_seen left
  pub all : ExplainsAll x [] done text
  pub appended : Appends old now text
  pub just : HasJust (followed_in x [] done) f

module _ (x : Explaining) (columns : List Held) where
  pub none_yet : (old : Option (List ℕ)) (f : Followed) → HasJust [] f → AreExplained x columns columns old old f
  none_yet old f just = record { done = []; text = []; are = refl; all = refl; appended = appends_nothing old; just = just }

  pub all_explained : (left : List Held) (old now : Option (List ℕ)) (f : Followed) → AreExplained x columns left old now f → left ≡ [] → IsExplained x (map key_seen columns) old now (Ok tt)
  all_explained left old now f h is =
      (h.text, subst (λ ks. ExplainsAll x [] ks h.text) (sym (h.are ∙ ap (λ ks. h.done ++ map key_seen ks) is ∙ append-nil h.done)) h.all, h.appended)

  module _ (left rest : List Held) (k : Held) (old now new : Option (List ℕ)) (f : Followed) (h : AreExplained x columns left old now f) (is : left ≡ k ∷ rest) where
    pub one_explained : (g : Followed) → HasValue x (key_seen k)
        → ((before : List Key) → HasJust before f → IsColumnTold x Memory before (key_seen k) now new × HasJust (column_told x before (key_seen k)).followed g) → AreExplained x columns rest old new g
    one_explained g value told =
        let one = told (followed_in x [] h.done) h.just in
        record {
          done = h.done ++ key_seen k ∷ [];
          text = h.text ++ one.0.0;
          are = h.are ∙ ap (λ ks. h.done ++ map key_seen ks) is ∙ sym (append_assoc h.done (key_seen k ∷ []) (map key_seen rest));
          all = one_more x [] h.done (key_seen k) h.text one.0.0 h.all value (Memory, one.0.1);
          appended = trans old now new h.text one.0.0 h.appended one.0.2;
          just = subst (λ ks. HasJust ks g) (sym (followed_more x [] h.done (key_seen k))) one.1;
        }

    pub not_explained : (e : ExplainFault) → ((fault : EvalFault) → e ≡ end.Eval fault → (told_in x.simulation k ≡ Err fault) × ((before : List Key) → HasJust before f → IsColumnTold x fault before (key_seen k) now new))
        → IsExplained x (map key_seen columns) old new (Err e)
    not_explained (end.Eval fault) why =
        let told = why fault refl in
        let one = told.1 (followed_in x [] h.done) h.just in (
          h.text ++ one.0,
          record {
            done = h.done;
            key = key_seen k;
            rest = map key_seen rest;
            are = h.are ∙ ap (λ ks. h.done ++ map key_seen ks) is;
            first = h.text;
            last = one.0;
            all = h.all;
            none = told.0;
            one = one.1;
            text_is = refl;
          },
          trans old now new h.text one.0 h.appended one.2,
        )
    not_explained end.Write why = tt
    not_explained end.Memory why = tt
