-- All inputs of a situation, with those that differ in the values of axes alone set anew.
use Rattle.std.proofs.Common.{◌≡◌, ℕ, List, [], ◌∷◌, map, Bool, true, false, Option, Some, None, is_some, slice_get, refl, sym, ap, subst, ◌∙◌, ◌||◌}
use Rattle.std.specs.Prelude.{⊤, Result, Ok, Err}
use Rattle.std.specs.List.{list_any}
use Rattle.std.proofs.lemmas.Bool.{or_right}
use Rattle.fisca_inputs.specs.Defaults.{beside, beside_by, row_with, rows_of, with_defaults}
use Rattle.fisca_inputs.specs.Steps.Defaults.{count_of, first_line, row_of}
use Rattle.fisca_inputs.specs.Entries.{Entries, same_key, value_at}
use Rattle.fisca_inputs.specs.Steps.Entries.{has}
use Rattle.fisca_inputs.specs.Inputs.{inputs_of}
use Rattle.fisca_inputs.specs.Steps.Order.{in_order}
use Rattle.fisca_inputs.specs.Rules.{Rule}
use Rattle.fisca_inputs.specs.Sharing.{all_shared, shared, shared_by}
use Rattle.fisca_inputs.specs.Steps.Sharing.{parts_of}
use Rattle.fisca_inputs.specs.declared.fault.SituationFault.{SituationFault}
use Rattle.fisca_inputs.specs.declared.given.Given.{Given}
use Rattle.fisca_model.specs.declared.value.Value.{Value}
use Rattle.fisca_model.specs.declared.key.Key.{Key}
use Rattle.fisca_model.specs.Periods.{fits}
use Rattle.fisca_num.specs.Results.{and_then}
use Rattle.fisca_slots.proofs.Anew.{Agrees, Anew, IsEven, all_set, fewer, kept_by, kept_set, keys_set, outside, set, shared_set, there_after}
use Rattle.fisca_slots.proofs.Both.{Moving, here, keys_of}
use Rattle.fisca_slots.proofs.Shared.{CanShare, Disjoint, Each, Pairwise, given_of, order_here, order_moving, order_read, rows_by, rows_keys}

module _ (rules : List Rule) (to : Anew) (even : IsEven to) where
  -- it can be shared, and keys get what stands there anew
  abbrev pub IsFit : Moving → Type 0
  IsFit t = CanShare rules t × ((r : Rule) → slice_get rules t.given.variable ≡ Some r → Agrees to r t)

  -- Sharing

  abbrev FreeAt : Entries → Moving → Type 0
  FreeAt es t =
      (r : Rule) → slice_get rules t.given.variable ≡ Some r → fits r.unit t.given.period ≡ false → is_some t.value ≡ true → (q : Key)
      → list_any (same_key q) (parts_of r t.given) ≡ true → value_at es q ≡ None

  abbrev AllFree : Entries → List Moving → Type 0
  AllFree es [] = ⊤
  AllFree es (t ∷ ts) = FreeAt es t × AllFree es ts

  -- the keys that an axis moves have values
  abbrev pub There : Entries → Moving → Type 0
  There es t =
      (r : Rule) → slice_get rules t.given.variable ≡ Some r → is_some t.value ≡ true → (q : Key) → list_any (same_key q) (keys_of r t.given) ≡ true
      → has es q ≡ true

  abbrev pub AllThere : Entries → List Moving → Type 0
  AllThere es [] = ⊤
  AllThere es (t ∷ ts) = There es t × AllThere es ts

  free_after : (r : Rule) (t u : Moving) (es new : Entries) → shared r t.given es ≡ Ok new → slice_get rules t.given.variable ≡ Some r → Disjoint rules t u
      → FreeAt es u → FreeAt new u
  free_after r t u es new h is apart free s at longer moved q inside = by (list_any (same_key q) (keys_of r t.given)) refl
    where
      by : (b : Bool) → list_any (same_key q) (keys_of r t.given) ≡ b → value_at new q ≡ None
      by true there = absurd (apart r s is at longer (or_right (is_some t.value) (is_some u.value) moved) q there inside)
      by false out = outside r t.given es new h q out ∙ free s at longer moved q inside

  all_free_after : (r : Rule) (t : Moving) (us : List Moving) (es new : Entries) → shared r t.given es ≡ Ok new → slice_get rules t.given.variable ≡ Some r
      → Each (Disjoint rules) t us → AllFree es us → AllFree new us
  all_free_after r t [] es new h is apart free = tt
  all_free_after r t (u ∷ us) es new h is apart free = (free_after r t u es new h is apart.0 free.0, all_free_after r t us es new h is apart.1 free.1)

  kept_all : (gs : List Given) (es new : Entries) → all_shared rules gs es ≡ Ok new → (q : Key) → has es q ≡ true → has new q ≡ true
  kept_all [] es new h q there = let is : es ≡ new = cc in ap (λ fs. has fs q) (sym is) ∙ there
  kept_all (g ∷ gs) es new h q there = by (λ mid rest. kept_all gs mid new rest q) (slice_get rules g.variable) h
    where
      one : ((mid : Entries) → all_shared rules gs mid ≡ Ok new → has mid q ≡ true → has new q ≡ true) → (r : Rule) (o : Result Entries SituationFault)
          → shared r g es ≡ o → and_then o (all_shared rules gs) ≡ Ok new → has new q ≡ true
      one later r (Ok mid) first rest = later mid rest (kept_by r g es mid first q there)
      one later r (Err f) first rest = cc

      by : ((mid : Entries) → all_shared rules gs mid ≡ Ok new → has mid q ≡ true → has new q ≡ true) → (o : Option Rule)
          → and_then (shared_by o g es) (all_shared rules gs) ≡ Ok new → has new q ≡ true
      by later None e = cc
      by later (Some r) e = one later r (shared r g es) refl e

  abbrev SharedAnew : List Moving → Entries → Entries → Type 0
  SharedAnew ts es new = (all_shared rules (map here ts) (set to es) ≡ Ok (set to new)) × AllThere new ts

  all_again : (ts : List Moving) (es new : Entries) → Pairwise IsFit (Disjoint rules) ts → AllFree es ts → all_shared rules (map given_of ts) es ≡ Ok new
      → SharedAnew ts es new
  all_again [] es new sound free h = (kept_set to es new h, tt)
  all_again (t ∷ ts) es new sound free h = by (λ mid. all_again ts mid new sound.1.1) (slice_get rules t.given.variable) refl h
    where
      one : ((mid : Entries) → AllFree mid ts → all_shared rules (map given_of ts) mid ≡ Ok new → SharedAnew ts mid new) → (r : Rule)
          → slice_get rules t.given.variable ≡ Some r → (o : Result Entries SituationFault) → shared r t.given es ≡ o
          → and_then o (all_shared rules (map given_of ts)) ≡ Ok new
          → (and_then (shared r (here t) (set to es)) (all_shared rules (map here ts)) ≡ Ok (set to new)) × AllThere new (t ∷ ts)
      one later r is (Ok mid) first rest =
          let more = later mid (all_free_after r t ts es mid first is sound.1.0 free.1) rest in
          let again = shared_set to even r t.given t.value es mid (sound.0.1 r is) (free.0 r is) (sound.0.0 r is) first in (
            ap (λ o. and_then o (all_shared rules (map here ts))) again ∙ more.0,
            (
              λ s at moved q inside.
                  let found : Some s ≡ Some r = sym at ∙ is in
                  let same : s ≡ r = cc in
                  kept_all (map given_of ts) mid new rest q
                  (there_after r t.given es mid (λ own. free.0 r is own moved) first q (subst (λ x. list_any (same_key q) (keys_of x t.given) ≡ true) same inside)),
              more.1,
            ),
          )
      one later r is (Err f) first rest = cc

      by : ((mid : Entries) → AllFree mid ts → all_shared rules (map given_of ts) mid ≡ Ok new → SharedAnew ts mid new) → (o : Option Rule)
          → slice_get rules t.given.variable ≡ o → and_then (shared_by o t.given es) (all_shared rules (map given_of ts)) ≡ Ok new
          → (and_then (shared_by o (here t) (set to es)) (all_shared rules (map here ts)) ≡ Ok (set to new)) × AllThere new (t ∷ ts)
      by later None is e = cc
      by later (Some r) is e = one later r is (shared r t.given es) refl e

  free_first : (ts : List Moving) → AllFree [] ts
  free_first [] = tt
  free_first (t ∷ ts) = (λ r is own moved q inside. refl, free_first ts)

  -- Defaults

  -- a key that has no value keeps what it would get
  abbrev pub Still : Entries → Type 0
  Still es = (q : Key) → has es q ≡ false → (x : Value) → to q x ≡ x

  row_again : (line other : ℕ) (o : Option Value) (ks : List Key) (es new : Entries) → Still es → row_with line o ks es ≡ Ok new
      → (row_with other o ks (set to es) ≡ Ok (set to new)) × Still new
  row_again line other None ks es new still h = let is : es ≡ new = cc in (kept_set to es new h, subst Still is still)
  row_again line other (Some x) ks es new still h = (
    all_set to line other x x ks es new h (λ q inside free. still q free x),
    λ q free. still q (fewer line x ks es new h q free),
  )

  beside_again : (o : Option Rule) (counts : List ℕ) (gs hs : List Given) (k : Key) (es new : Entries) → Still es → beside_by o counts gs k es ≡ Ok new
      → (beside_by o counts hs k (set to es) ≡ Ok (set to new)) × Still new
  beside_again None counts gs hs k es new still h = let is : es ≡ new = cc in (kept_set to es new h, subst Still is still)
  beside_again (Some r) counts gs hs k es new still h =
      row_again (first_line gs k.variable) (first_line hs k.variable) r.default (row_of k.variable (count_of counts r.entity) k.period) es new still h

  defaults_again : (counts : List ℕ) (gs hs : List Given) (ks : List Key) (es new : Entries) → Still es → with_defaults rules counts gs ks es ≡ Ok new
      → with_defaults rules counts hs ks (set to es) ≡ Ok (set to new)
  defaults_again counts gs hs [] es new still h = kept_set to es new h
  defaults_again counts gs hs (k ∷ ks) es new still h =
      by (λ mid quiet rest. defaults_again counts gs hs ks mid new quiet rest) (beside rules counts gs k es) refl h
    where
      by : ((mid : Entries) → Still mid → with_defaults rules counts gs ks mid ≡ Ok new → with_defaults rules counts hs ks (set to mid) ≡ Ok (set to new))
          → (r : Result Entries SituationFault) → beside rules counts gs k es ≡ r → and_then r (with_defaults rules counts gs ks) ≡ Ok new
          → and_then (beside rules counts hs k (set to es)) (with_defaults rules counts hs ks) ≡ Ok (set to new)
      by later (Ok mid) first rest =
          let one = beside_again (slice_get rules k.variable) counts gs hs k es mid still first in
          ap (λ r. and_then r (with_defaults rules counts hs ks)) one.0 ∙ later mid one.1 rest
      by later (Err f) first rest = cc

  -- All inputs

  module _ (counts : List ℕ) (ts : List Moving) (sound : Pairwise IsFit (Disjoint rules) (order_moving rules [] ts))
      (still : (es : Entries) → AllThere es (order_moving rules [] ts) → Still es) where
    by_shared : (new : Entries) (o : Result Entries SituationFault) → all_shared rules (in_order rules (map given_of ts)) [] ≡ o
        → and_then o (λ es. with_defaults rules counts (map given_of ts) (rows_of es) es) ≡ Ok new → inputs_of rules counts (map here ts) ≡ Ok (set to new)
    by_shared new (Ok es) first rest =
        let one =
        all_again (order_moving rules [] ts) [] es sound (free_first (order_moving rules [] ts))
        (ap (λ gs. all_shared rules gs []) (order_read rules [] ts) ∙ first) in
        let shared_here : all_shared rules (in_order rules (map here ts)) [] ≡ Ok (set to es) =
        ap (λ gs. all_shared rules gs []) (sym (order_here rules [] ts)) ∙ one.0 in
        let rows : rows_of (set to es) ≡ rows_of es =
        rows_keys rules [] (set to es) ∙ (ap (rows_by rules []) (keys_set to es) ∙ sym (rows_keys rules [] es)) in
        ap (λ r. and_then r (λ fs. with_defaults rules counts (map here ts) (rows_of fs) fs)) shared_here
        ∙ (ap (λ ks. with_defaults rules counts (map here ts) ks (set to es)) rows
        ∙ defaults_again counts (map given_of ts) (map here ts) (rows_of es) es new (still es one.1) rest)
    by_shared new (Err f) first rest = cc

    pub inputs_again : (new : Entries) → inputs_of rules counts (map given_of ts) ≡ Ok new → inputs_of rules counts (map here ts) ≡ Ok (set to new)
    inputs_again new h = by_shared new (all_shared rules (in_order rules (map given_of ts)) []) refl h
