-- Inputs are shared at a position where they were shared as they were read.
use Rattle.std.proofs.Common.{◌≡◌, ℕ, List, [], ◌∷◌, map, length, Bool, true, false, Option, Some, None, is_some, slice_get, refl, sym, ap, ◌∙◌, if◌then◌else◌, ◌||◌}
use Rattle.std.specs.Prelude.{⊤, Result, Ok, Err}
use Rattle.std.specs.List.{list_any}
use Rattle.std.specs.Ordering.{is_lt}
use Rattle.fisca_inputs.specs.Defaults.{row_with, beside, beside_by, row_key, and_row, rows_with, rows_of, with_defaults}
use Rattle.fisca_inputs.specs.Steps.Defaults.{first_line, row_of, count_of}
use Rattle.fisca_inputs.specs.Entries.{Entries, same_key}
use Rattle.fisca_inputs.specs.Inputs.{inputs_of}
use Rattle.fisca_inputs.specs.Steps.Order.{given_cmp, put_in_order, in_order_with, in_order}
use Rattle.fisca_inputs.specs.Rules.{Rule}
use Rattle.fisca_inputs.specs.Sharing.{shared, shared_by, all_shared}
use Rattle.fisca_inputs.specs.Steps.Sharing.{parts_of}
use Rattle.fisca_inputs.specs.declared.fault.SituationFault.{SituationFault}
use Rattle.fisca_inputs.specs.declared.given.Given.{Given}
use Rattle.fisca_model.specs.declared.value.Value.{Value}
use Rattle.fisca_model.specs.declared.key.Key.{Key}
use Rattle.fisca_model.specs.Periods.{fits}
use Rattle.fisca_num.specs.Number.{Number}
use Rattle.fisca_num.specs.Results.{and_then}
use Rattle.fisca_slots.proofs.Both.{Alike, Both, HasParts, IsSettled, Moving, Settled, all_alike, here, kept_alike, keys, keys_of, shared_both}
use Rattle.fisca_time.specs.Period.{subs}

-- Lists

-- this holds of each, and that of each and those behind it
abbrev pub Each : {X : Type 0} → (X → X → Type 0) → X → List X → Type 0
Each R x [] = ⊤
Each R x (y ∷ ys) = R x y × Each R x ys

abbrev pub Pairwise : {X : Type 0} → (X → Type 0) → (X → X → Type 0) → List X → Type 0
Pairwise P R [] = ⊤
Pairwise P R (x ∷ xs) = P x × (Each R x xs × Pairwise P R xs)

abbrev pub given_of : Moving → Given
given_of t = t.given

-- Sharing

module _ (rules : List Rule) where
  -- what is shared over its parts can be shared so
  abbrev pub CanShare : Moving → Type 0
  CanShare t = (r : Rule) → slice_get rules t.given.variable ≡ Some r → HasParts t.value (length (subs t.given.period r.unit))

  -- no key of the one is a part of the other, where an axis moves one of them
  abbrev pub Disjoint : Moving → Moving → Type 0
  Disjoint t u =
      (r s : Rule) → slice_get rules t.given.variable ≡ Some r → slice_get rules u.given.variable ≡ Some s → fits s.unit u.given.period ≡ false
      → (is_some t.value || is_some u.value) ≡ true → (q : Key) → list_any (same_key q) (keys_of r t.given) ≡ true
      → list_any (same_key q) (parts_of s u.given) ≡ true → ⊥

  abbrev IsFine : Entries → Entries → Moving → Type 0
  IsFine es fs t = (r : Rule) → slice_get rules t.given.variable ≡ Some r → IsSettled r es fs t

  abbrev AllFine : Entries → Entries → List Moving → Type 0
  AllFine es fs [] = ⊤
  AllFine es fs (t ∷ ts) = IsFine es fs t × AllFine es fs ts

  settled_after : (t u : Option Number) (ks : List Key) (es new fs : Entries) (result : Result Entries SituationFault) (both : Both t ks es new fs result)
      → (q : Key) → ((is_some t || is_some u) ≡ true → list_any (same_key q) ks ≡ true → ⊥) → Settled u es fs q → Settled u new both.after q
  settled_after t u ks es new fs result both q apart = by t u refl (list_any (same_key q) ks) refl apart
    where
      out : (u : Option Number) → list_any (same_key q) ks ≡ false → Settled u es fs q → Settled u new both.after q
      out None free old = both.outside q free ∙ (old ∙ sym (both.outside_here q free))
      out (Some v) free old = both.outside q free ∙ old

      by : (s u : Option Number) → t ≡ s → (b : Bool) → list_any (same_key q) ks ≡ b → ((is_some s || is_some u) ≡ true → b ≡ true → ⊥) → Settled u es fs q
          → Settled u new both.after q
      by None None is true inside apart old = both.agree is q old
      by None (Some v) is true inside apart old = absurd (apart refl refl)
      by (Some w) u is true inside apart old = absurd (apart refl refl)
      by s u is false free apart old = out u free old

  fine_after : (r : Rule) (t u : Moving) (es new fs : Entries) (result : Result Entries SituationFault)
      → (both : Both t.value (keys_of r t.given) es new fs result) → slice_get rules t.given.variable ≡ Some r → Disjoint t u → IsFine es fs u → IsFine new both.after u
  fine_after r t u es new fs result both is apart fine s at longer q inside =
      settled_after t.value u.value (keys_of r t.given) es new fs result both q (λ moved there. apart r s is at longer moved q there inside)
      (fine s at longer q inside)

  all_fine : (r : Rule) (t : Moving) (us : List Moving) (es new fs : Entries) (result : Result Entries SituationFault)
      → (both : Both t.value (keys_of r t.given) es new fs result) → slice_get rules t.given.variable ≡ Some r → Each Disjoint t us → AllFine es fs us → AllFine new both.after us
  all_fine r t [] es new fs result both is apart fine = tt
  all_fine r t (u ∷ us) es new fs result both is apart fine =
      (fine_after r t u es new fs result both is apart.0 fine.0, all_fine r t us es new fs result both is apart.1 fine.1)

  -- what is shared as it was read is shared at the position
  abbrev SharedOn : List Moving → Entries → Type 0
  SharedOn ts new =
      (es fs : Entries) → keys es ≡ keys fs → AllFine es fs ts → all_shared rules (map given_of ts) es ≡ Ok new → Alike new (all_shared rules (map here ts) fs)

  all_shared_both : (ts : List Moving) (new : Entries) → Pairwise CanShare Disjoint ts → SharedOn ts new
  all_shared_both [] new sound es fs same fine h = kept_alike es fs new same h
  all_shared_both (t ∷ ts) new sound es fs same fine h = by (all_shared_both ts new sound.1.1) (slice_get rules t.given.variable) refl h
    where
      one : SharedOn ts new → (r : Rule) → slice_get rules t.given.variable ≡ Some r → (o : Result Entries SituationFault) → shared r t.given es ≡ o
          → and_then o (all_shared rules (map given_of ts)) ≡ Ok new → Alike new (and_then (shared r (here t) fs) (all_shared rules (map here ts)))
      one later r is (Ok mid) first rest =
          let both = shared_both r t es fs mid same (fine.0 r is) (sound.0 r is) first in
          let more = later mid both.after both.same (all_fine r t ts es mid fs (shared r (here t) fs) both is sound.1.0 fine.1) rest in
          record { after = more.after; is = ap (λ o. and_then o (all_shared rules (map here ts))) both.is ∙ more.is; same = more.same }
      one later r is (Err f) first rest = cc

      by : SharedOn ts new → (o : Option Rule) → slice_get rules t.given.variable ≡ o → and_then (shared_by o t.given es) (all_shared rules (map given_of ts)) ≡ Ok new
          → Alike new (and_then (shared_by o (here t) fs) (all_shared rules (map here ts)))
      by later None is e = cc
      by later (Some r) is e = one later r is (shared r t.given es) refl e

  -- at first there are no entries
  fine_first : (ts : List Moving) → AllFine [] [] ts
  fine_first [] = tt
  fine_first (t ∷ ts) = (λ r is longer q inside. none t.value q, fine_first ts)
    where
      none : (value : Option Number) (q : Key) → Settled value [] [] q
      none None q = refl
      none (Some v) q = refl

  -- Order

  abbrev pub put_moving : Moving → List Moving → List Moving
  put_moving t [] = t ∷ []
  put_moving t (u ∷ us) = if is_lt (given_cmp rules t.given u.given) then t ∷ u ∷ us else u ∷ put_moving t us

  abbrev pub order_moving : List Moving → List Moving → List Moving
  order_moving sorted [] = sorted
  order_moving sorted (t ∷ ts) = order_moving (put_moving t sorted) ts

  put_read : (t : Moving) (us : List Moving) → map given_of (put_moving t us) ≡ put_in_order rules t.given (map given_of us)
  put_read t [] = refl
  put_read t (u ∷ us) = by (is_lt (given_cmp rules t.given u.given)) (put_read t us)
    where
      by : (b : Bool) → map given_of (put_moving t us) ≡ put_in_order rules t.given (map given_of us)
          → map given_of (if b then t ∷ u ∷ us else u ∷ put_moving t us) ≡
          (if b then t.given ∷ u.given ∷ map given_of us else u.given ∷ put_in_order rules t.given (map given_of us))
      by true e = refl
      by false e = ap (λ gs. u.given ∷ gs) e

  put_here : (t : Moving) (us : List Moving) → map here (put_moving t us) ≡ put_in_order rules (here t) (map here us)
  put_here t [] = refl
  put_here t (u ∷ us) = by (is_lt (given_cmp rules t.given u.given)) (put_here t us)
    where
      by : (b : Bool) → map here (put_moving t us) ≡ put_in_order rules (here t) (map here us)
          → map here (if b then t ∷ u ∷ us else u ∷ put_moving t us) ≡
          (if b then here t ∷ here u ∷ map here us else here u ∷ put_in_order rules (here t) (map here us))
      by true e = refl
      by false e = ap (λ gs. here u ∷ gs) e

  pub order_read : (sorted ts : List Moving) → map given_of (order_moving sorted ts) ≡ in_order_with rules (map given_of sorted) (map given_of ts)
  order_read sorted [] = refl
  order_read sorted (t ∷ ts) = order_read (put_moving t sorted) ts ∙ ap (λ gs. in_order_with rules gs (map given_of ts)) (put_read t sorted)

  pub order_here : (sorted ts : List Moving) → map here (order_moving sorted ts) ≡ in_order_with rules (map here sorted) (map here ts)
  order_here sorted [] = refl
  order_here sorted (t ∷ ts) = order_here (put_moving t sorted) ts ∙ ap (λ gs. in_order_with rules gs (map here ts)) (put_here t sorted)

  module _ (P : Moving → Type 0) (R : Moving → Moving → Type 0) (turn : (t u : Moving) → R t u → R u t) where
    each_put : (x t : Moving) (us : List Moving) → Each R x us → R x t → Each R x (put_moving t us)
    each_put x t [] all one = (one, tt)
    each_put x t (u ∷ us) all one = by (is_lt (given_cmp rules t.given u.given)) (each_put x t us all.1 one)
      where
        by : (b : Bool) → Each R x (put_moving t us) → Each R x (if b then t ∷ u ∷ us else u ∷ put_moving t us)
        by true more = (one, all)
        by false more = (all.0, more)

    sound_put : (t : Moving) (us : List Moving) → Pairwise P R us → P t → Each R t us → Pairwise P R (put_moving t us)
    sound_put t [] sound p all = (p, (tt, tt))
    sound_put t (u ∷ us) sound p all = by (is_lt (given_cmp rules t.given u.given)) (sound_put t us sound.1.1 p all.1)
      where
        by : (b : Bool) → Pairwise P R (put_moving t us) → Pairwise P R (if b then t ∷ u ∷ us else u ∷ put_moving t us)
        by true more = (p, (all, sound))
        by false more = (sound.0, (each_put u t us sound.1.0 (turn t u all.0), more))

    abbrev Across : List Moving → List Moving → Type 0
    Across [] sorted = ⊤
    Across (t ∷ ts) sorted = Each R t sorted × Across ts sorted

    across_put : (t : Moving) (sorted ts : List Moving) → Across ts sorted → Each R t ts → Across ts (put_moving t sorted)
    across_put t sorted [] all each = tt
    across_put t sorted (u ∷ us) all each = (each_put u t sorted all.0 (turn t u each.0), across_put t sorted us all.1 each.1)

    sound_order : (sorted ts : List Moving) → Pairwise P R sorted → Pairwise P R ts → Across ts sorted → Pairwise P R (order_moving sorted ts)
    sound_order sorted [] one two all = one
    sound_order sorted (t ∷ ts) one two all =
        sound_order (put_moving t sorted) ts (sound_put t sorted one two.0 all.0) two.1.1 (across_put t sorted ts all.1 two.1.0)

    across_none : (ts : List Moving) → Across ts []
    across_none [] = tt
    across_none (t ∷ ts) = (tt, across_none ts)

    pub sound_ordered : (ts : List Moving) → Pairwise P R ts → Pairwise P R (order_moving [] ts)
    sound_ordered ts sound = sound_order [] ts tt sound (across_none ts)

  -- Defaults

  abbrev pub rows_by : List Key → List Key → List Key
  rows_by rows [] = rows
  rows_by rows (k ∷ ks) = rows_by (and_row rows (row_key k)) ks

  pub rows_keys : (rows : List Key) (es : Entries) → rows_with rows es ≡ rows_by rows (keys es)
  rows_keys rows [] = refl
  rows_keys rows (e ∷ es) = rows_keys (and_row rows (row_key e.0)) es

  row_alike : (line other : ℕ) (o : Option Value) (ks : List Key) (es fs new : Entries) → keys es ≡ keys fs → row_with line o ks es ≡ Ok new
      → Alike new (row_with other o ks fs)
  row_alike line other None ks es fs new same h = kept_alike es fs new same h
  row_alike line other (Some x) ks es fs new same h = all_alike line other x x ks es fs new same h

  beside_alike : (o : Option Rule) (counts : List ℕ) (gs hs : List Given) (k : Key) (es fs new : Entries) → keys es ≡ keys fs
      → beside_by o counts gs k es ≡ Ok new
      → Alike new (beside_by o counts hs k fs)
  beside_alike None counts gs hs k es fs new same h = kept_alike es fs new same h
  beside_alike (Some r) counts gs hs k es fs new same h =
      row_alike (first_line gs k.variable) (first_line hs k.variable) r.default (row_of k.variable (count_of counts r.entity) k.period) es fs new same h

  defaults_alike : (counts : List ℕ) (gs hs : List Given) (ks : List Key) (es fs new : Entries) → keys es ≡ keys fs
      → with_defaults rules counts gs ks es ≡ Ok new
      → Alike new (with_defaults rules counts hs ks fs)
  defaults_alike counts gs hs [] es fs new same h = kept_alike es fs new same h
  defaults_alike counts gs hs (k ∷ ks) es fs new same h =
      by (λ mid after alike rest. defaults_alike counts gs hs ks mid after new alike rest) (beside rules counts gs k es) refl h
    where
      by : ((mid after : Entries) → keys mid ≡ keys after → with_defaults rules counts gs ks mid ≡ Ok new → Alike new (with_defaults rules counts hs ks after))
          → (r : Result Entries SituationFault) → beside rules counts gs k es ≡ r → and_then r (with_defaults rules counts gs ks) ≡ Ok new
          → Alike new (and_then (beside rules counts hs k fs) (with_defaults rules counts hs ks))
      by later (Ok mid) first rest =
          let one = beside_alike (slice_get rules k.variable) counts gs hs k es fs mid same first in
          let more = later mid one.after one.same rest in
          record { after = more.after; is = ap (λ r. and_then r (with_defaults rules counts hs ks)) one.is ∙ more.is; same = more.same }
      by later (Err f) first rest = cc

  -- All inputs

  module _ (counts : List ℕ) (ts : List Moving) (sound : Pairwise CanShare Disjoint (order_moving [] ts)) where
    by_shared : (new : Entries) (o : Result Entries SituationFault) → all_shared rules (in_order rules (map given_of ts)) [] ≡ o
        → and_then o (λ es. with_defaults rules counts (map given_of ts) (rows_of es) es) ≡ Ok new → Alike new (inputs_of rules counts (map here ts))
    by_shared new (Ok es) first rest =
        let one =
        all_shared_both (order_moving [] ts) es sound [] [] refl (fine_first (order_moving [] ts)) (ap (λ gs. all_shared rules gs []) (order_read [] ts) ∙ first) in
        let more = defaults_alike counts (map given_of ts) (map here ts) (rows_of es) es one.after new one.same rest in
        let shared_here : all_shared rules (in_order rules (map here ts)) [] ≡ Ok one.after =
        ap (λ gs. all_shared rules gs []) (sym (order_here [] ts)) ∙ one.is in
        let rows : rows_of es ≡ rows_of one.after = rows_keys [] es ∙ (ap (rows_by []) one.same ∙ sym (rows_keys [] one.after)) in
        record {
          after = more.after;
          is = ap (λ r. and_then r (λ fs. with_defaults rules counts (map here ts) (rows_of fs) fs)) shared_here
              ∙ (ap (λ ks. with_defaults rules counts (map here ts) ks one.after) (sym rows) ∙ more.is);
          same = more.same;
        }
    by_shared new (Err f) first rest = cc

    pub inputs_both : (new : Entries) → inputs_of rules counts (map given_of ts) ≡ Ok new → Alike new (inputs_of rules counts (map here ts))
    inputs_both new h = by_shared new (all_shared rules (in_order rules (map given_of ts)) []) refl h
