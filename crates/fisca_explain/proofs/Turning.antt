-- What a formula needs is told note by note.
use Rattle.std.proofs.Common.{◌≡◌, ◌∙◌, ◌++◌, ◌∷◌, [], ℕ, List, Option, Some, None, append-nil, refl, subst, sym}
use Rattle.std.specs.Io.KnownBytes.{Appends}
use Rattle.fisca_forms.specs.LineForms.{Form}
use Rattle.fisca_model.specs.Seen.{key_seen}
use Rattle.fisca_model.specs.Values.{Key}
use Rattle.fisca_model.specs.declared.key.Key.{Key as Held}
use Rattle.fisca_simulation.specs.declared.note.Note.{Note}
use Rattle.fisca_simulation.specs.declared.note.Note.TheVariants as note
use Rattle.fisca_simulation.specs.declared.note.Reading.{Reading}
use Rattle.fisca_explain.specs.Explained.{Entry, Told, notes_in_turn, of_reading}
use Rattle.fisca_explain.specs.Followed.{HasJust}
use Rattle.fisca_explain.specs.Says.{AreLines, Names}
use Rattle.fisca_explain.specs.declared.keys.Followed.{Followed}
use Rattle.fisca_explain.proofs.Explaining.{IsDone}
use Rattle.fisca_explain.proofs.Telling.{all_entries, all_followed, asked_entries, asked_followed, read_entries, read_followed}
use Rattle.fisca_explain.proofs.Written.{written_more}

-- nothing more is there
appends_nothing : (o : Option (List ℕ)) → Appends o o []
appends_nothing None = tt
appends_nothing (Some a) = sym (append-nil a)

-- what is told so far of the whole stands in the sink, and what these notes tell comes behind
pub record IsUpTo (n : Names) (form : Option Form) (tell : List Key → Key → Told) (depth : ℕ) (whole : Told) (left : List Note) (old now : Option (List ℕ)) (f : Followed) : Type 0 where
  pub done : List Entry
  pub before : List Key
  pub written : (text : List ℕ) × AreLines n form done text × Appends old now text
  pub just : HasJust before f
  pub entries : whole.entries ≡ done ++ (notes_in_turn tell depth before left).entries
  pub followed : whole.followed ≡ (notes_in_turn tell depth before left).followed

module _ (n : Names) (form : Option Form) (tell : List Key → Key → Told) (depth : ℕ) where
  pub up_to_start : (before : List Key) (ns : List Note) (old : Option (List ℕ)) (f : Followed) → HasJust before f → IsUpTo n form tell depth (notes_in_turn tell depth before ns) ns old old f
  up_to_start before ns old f just = record { done = []; before = before; written = ([], refl, appends_nothing old); just = just; entries = refl; followed = refl }

  module _ (whole : Told) (left rest : List Note) (old now new : Option (List ℕ)) (f g : Followed) (h : IsUpTo n form tell depth whole left old now f) where
    pub asked_next : (k : Held) → left ≡ note.Asked k ∷ rest → ((before : List Key) → HasJust before f → IsDone n form (tell before (key_seen k)) now new g) → IsUpTo n form tell depth whole rest old new g
    asked_next k is told =
        let one = told h.before h.just in
        record {
          done = h.done ++ (tell h.before (key_seen k)).entries;
          before = (tell h.before (key_seen k)).followed;
          written = written_more n form h.done (tell h.before (key_seen k)).entries old now new h.written one.0;
          just = one.1;
          entries = asked_entries tell depth whole h.done h.before left h.entries h.followed k rest is;
          followed = asked_followed tell depth whole h.done h.before left h.entries h.followed k rest is;
        }

    pub read_next : (r : Reading) → left ≡ note.Read r ∷ rest → ((text : List ℕ) × AreLines n form (of_reading depth r ∷ []) text × Appends now new text) → f ≡ g → IsUpTo n form tell depth whole rest old new g
    read_next r is line same =
        record {
          done = h.done ++ of_reading depth r ∷ [];
          before = h.before;
          written = written_more n form h.done (of_reading depth r ∷ []) old now new h.written line;
          just = subst (HasJust h.before) same h.just;
          entries = read_entries tell depth whole h.done h.before left h.entries h.followed r rest is;
          followed = read_followed tell depth whole h.done h.before left h.entries h.followed r rest is;
        }

  pub up_to_end : (whole : Told) (left : List Note) (old now : Option (List ℕ)) (f : Followed) → IsUpTo n form tell depth whole left old now f → left ≡ [] → IsDone n form whole old now f
  up_to_end whole left old now f h is = (
    subst (λ es. (text : List ℕ) × AreLines n form es text × Appends old now text) (sym (all_entries tell depth whole h.done h.before left h.entries h.followed is)) h.written,
    subst (λ ks. HasJust ks f) (sym (all_followed tell depth whole h.done h.before left h.entries h.followed is)) h.just,
  )
