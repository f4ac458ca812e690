-- The shares of a divided input, and what its parts had before, add up to it.
use Rattle.std.proofs.Common.{◌≡◌, true≢false, ℕ, zero, suc, ℤ, pos, ◌+ℤ◌, ◌*ℤ◌, List, [], ◌∷◌, Bool, true, false, Option, Some, None, is_some, arith, refl, sym, ap, ◌∙◌, subst, if◌then◌else◌, ◌||◌}
use Rattle.std.specs.Prelude.{Result, Ok, Err, ◌==◌}
use Rattle.std.specs.List.{AllZip, list_any}
use Rattle.std.specs.Ordering.{int_eq}
use Rattle.std.proofs.lemmas.Int.{ints}
use Rattle.std.proofs.Math.Nat.{zero-mul}
use Rattle.std.proofs.lemmas.Bool.{eqb-true, eq-eqb, or_right}
use Rattle.std.proofs.lemmas.Bool.Decides.{Decides-int_eq}
use Rattle.fisca_num.specs.Number.{Number, zero_number}
use Rattle.fisca_num.specs.Operations.{number_of, difference_of}
use Rattle.fisca_num.specs.declared.faults.NumFault.{NumFault}
use Rattle.fisca_num.specs.Results.{and_then}
use Rattle.fisca_model.specs.Tables.{otherwise}
use Rattle.fisca_model.specs.contracts.key.KeyEq.TheImpl.Laws.{laws-law}
use Rattle.fisca_inputs.specs.Entries.{Entries, same_key, value_at}
use Rattle.fisca_inputs.specs.Steps.Entries.{put_all}
use Rattle.fisca_inputs.specs.Faults.{at_line}
use Rattle.fisca_inputs.specs.Sharing.{rest_of, count_free, divided}
use Rattle.fisca_inputs.specs.Steps.Sharing.{computed, without, part_ratio, share_of, spread}
use Rattle.fisca_inputs.specs.Totals.{IsOver, HasOver, total_of, AddUpTo}
use Rattle.fisca_inputs.specs.declared.fault.SituationFault.{SituationFault}
use Rattle.fisca_inputs.specs.declared.fault.SituationKind.TheVariants.{InconsistentInput}
use Rattle.fisca_model.specs.declared.value.Value.{Value}
use Rattle.fisca_model.specs.declared.value.Value.TheVariants as v
use Rattle.fisca_model.specs.declared.key.Key.{Key}
use Rattle.fisca_inputs.proofs.Looked.{looked-put_all}
use Rattle.fisca_inputs.proofs.Sums.{difference_over, part_over, over_once, times, times_is}

-- where a key has this, or else the share, that is y over the denominator
record Ends (share : Number) (d : ℕ) (o : Option Value) (y : ℤ) : Type 0 where
  number : Number
  has_it : otherwise o (Some (v.Number share)) ≡ Some (v.Number number)
  is : IsOver d number y

-- the number over the denominator, by what the parts have in the end and what is left
record Sum (n : Number) (d : ℕ) (total left share : ℤ) (count : ℕ) : Type 0 where
  value : ℤ
  over : IsOver d n value
  adds : total +ℤ left ≡ value +ℤ times count share

module _ (line : ℕ) (es : Entries) (share : Number) (d : ℕ) (z : ℤ) (over : IsOver d share z) (r : Number) (x : ℤ) (left : IsOver d r x) where
  sums : (ks : List Key) (ys : List ℤ) (n : Number) → rest_of line es ks n ≡ Ok r → AllZip (λ k y. Ends share d (value_at es k) y) ks ys → Sum n d (total_of ys) x z (count_free es ks)
  sums [] [] n e h = let same : r ≡ n = cc in record { value = x; over = subst (λ m. IsOver d m x) same left; adds = omega (arith, ints) }
  sums [] (y ∷ ys) n e h = absurd h
  sums (k ∷ ks) [] n e h = absurd h
  sums (k ∷ ks) (y ∷ ys) n e h = by (λ m f. sums ks ys m f h.1) (value_at es k) e h.0
    where
      more : ((m : Number) → rest_of line es ks m ≡ Ok r → Sum m d (total_of ys) x z (count_free es ks))
          → (m : Number) (q : Result Number NumFault) → difference_of n m ≡ q → and_then (computed line q) (rest_of line es ks) ≡ Ok r → IsOver d m y
          → Sum n d (y +ℤ total_of ys) x z (count_free es ks)
      more others m (Ok p) first rest own =
          let s = others p rest in
          let adds = s.adds in
          record { value = y +ℤ s.value; over = difference_over n m p d s.value y first s.over own; adds = omega (arith, ints, adds) }
      more others m (Err f) first rest own = cc

      by : ((m : Number) → rest_of line es ks m ≡ Ok r → Sum m d (total_of ys) x z (count_free es ks))
          → (o : Option Value) → and_then (without line o n) (rest_of line es ks) ≡ Ok r → Ends share d o y
          → Sum n d (y +ℤ total_of ys) x z (if is_some o then count_free es ks else suc (count_free es ks))
      by others None rest end =
          let s = others n rest in
          let same : end.number ≡ share = cc (end.has_it) in
          let once : y ≡ z = over_once share d y z (subst (λ m. IsOver d m y) same end.is) over in
          let adds = s.adds in
          record { value = s.value; over = s.over; adds = omega (arith, ints, adds, once) }
      by others (Some (v.Number m)) rest end =
          let same : end.number ≡ m = cc (end.has_it) in
          more others m (difference_of n m) refl rest (subst (λ p. IsOver d p y) same end.is)
      by others (Some (v.Bool b)) rest end = cc
      by others (Some (v.Member i)) rest end = cc

-- a part that had nothing has the share
some_free : (share : Number) (d : ℕ) (es : Entries) (ks : List Key) (ys : List ℤ) (c : ℕ) → AllZip (λ k y. Ends share d (value_at es k) y) ks ys → count_free es ks ≡ suc c → (z : ℤ) × IsOver d share z
some_free share d es [] ys c h e = cc
some_free share d es (k ∷ ks) [] c h e = absurd h
some_free share d es (k ∷ ks) (y ∷ ys) c h e = by (some_free share d es ks ys c h.1) (value_at es k) h.0 e
  where
    by : (count_free es ks ≡ suc c → (z : ℤ) × IsOver d share z) → (o : Option Value) → Ends share d o y → (if is_some o then count_free es ks else suc (count_free es ks)) ≡ suc c → (z : ℤ) × IsOver d share z
    by more None end f = let same : end.number ≡ share = cc (end.has_it) in (y, subst (λ m. IsOver d m y) same end.is)
    by more (Some m) end f = more f

-- what the parts have after the shares were put
module _ (share : Number) (d : ℕ) (es after : Entries) (whole : List Key)
    (looked : (q : Key) → value_at after q ≡ otherwise (value_at es q) (if list_any (same_key q) whole then Some (v.Number share) else None)) where
  ends : (ks : List Key) (ys : List ℤ) → ((q : Key) → list_any (same_key q) ks ≡ true → list_any (same_key q) whole ≡ true) → AllZip (HasOver d after) ks ys
      → AllZip (λ k y. Ends share d (value_at es k) y) ks ys
  ends [] [] within h = h
  ends [] (y ∷ ys) within h = h
  ends (k ∷ ks) [] within h = h
  ends (k ∷ ks) (y ∷ ys) within h =
      let itself : (same_key k k || list_any (same_key k) ks) ≡ true = ap (λ b. b || list_any (same_key k) ks) (laws-law.refl k) in
      let inside : list_any (same_key k) whole ≡ true = within k itself in
      let there : value_at after k ≡ otherwise (value_at es k) (Some (v.Number share)) = looked k ∙ ap (λ b. otherwise (value_at es k) (if b then Some (v.Number share) else None)) inside in
      (record { number = h.0.number; has_it = sym there ∙ h.0.has; is = h.0.is }, ends ks ys (λ q e. within q (or_right (same_key q k) (list_any (same_key q) ks) e)) h.1)

-- where all parts had something, nothing is left
none_left : (line : ℕ) (es : Entries) (r n : Number) (d : ℕ) (ks : List Key) (ys : List ℤ) → count_free es ks ≡ 0 → rest_of line es ks n ≡ Ok r → r.numerator ≡ pos 0
    → AllZip (HasOver d es) ks ys → IsOver d n (total_of ys)
none_left line es r n d ks ys none rest zero_left h =
    let nothing : IsOver d zero_number (pos 0) = ap pos (zero-mul d) in
    let left : IsOver d r (pos 0) = ap (λ z. z *ℤ pos d) zero_left ∙ ap pos (zero-mul d ∙ sym (zero-mul r.denominator)) in
    let s = sums line es zero_number d (pos 0) nothing r (pos 0) left ks ys n rest (given ks ys h) in
    let adds = s.adds in
    let same : s.value ≡ total_of ys = omega (arith, ints, subst (λ c. total_of ys +ℤ pos 0 ≡ s.value +ℤ times c (pos 0)) none adds) in
    subst (λ z. IsOver d n z) same s.over
  where
    kept : (o : Option Value) (m : Number) → o ≡ Some (v.Number m) → otherwise o (Some (v.Number zero_number)) ≡ Some (v.Number m)
    kept o m e = ap (λ p. otherwise p (Some (v.Number zero_number))) e

    given : (ks : List Key) (ys : List ℤ) → AllZip (HasOver d es) ks ys → AllZip (λ k y. Ends zero_number d (value_at es k) y) ks ys
    given [] [] h = h
    given [] (y ∷ ys) h = h
    given (k ∷ ks) [] h = h
    given (k ∷ ks) (y ∷ ys) h = (record { number = h.0.number; has_it = kept (value_at es k) h.0.number h.0.has; is = h.0.is }, given ks ys h.1)

-- where some had nothing, their shares are what is left
all_left : (line : ℕ) (es after : Entries) (r n share : Number) (d c : ℕ) (ks : List Key) (ys : List ℤ) → count_free es ks ≡ suc c → rest_of line es ks n ≡ Ok r
    → number_of (part_ratio r (count_free es ks)) ≡ Ok share → put_all line (v.Number share) ks es ≡ Ok after → AllZip (HasOver d after) ks ys → IsOver d n (total_of ys)
all_left line es after r n share d c ks ys some rest part put h =
    let end = ends share d es after ks (λ q. looked-put_all line (v.Number share) ks es after q put) ks ys (λ q e. e) h in
    let one = some_free share d es ks ys c end some in
    let left = part_over r share (count_free es ks) d one.0 part one.1 in
    let s = sums line es share d one.0 one.1 r (pos (count_free es ks) *ℤ one.0) left ks ys n rest end in
    let adds = s.adds in
    let shares = times_is (count_free es ks) one.0 in
    let same : s.value ≡ total_of ys = omega (arith, ints, adds, shares) in
    subst (λ z. IsOver d n z) same s.over

module _ (line : ℕ) (es after : Entries) (n : Number) (ks : List Key) (d : ℕ) (ys : List ℤ) (all : AllZip (HasOver d after) ks ys) where
  by_share : (r : Number) (c : ℕ) → count_free es ks ≡ suc c → rest_of line es ks n ≡ Ok r → (q : Result Number NumFault) → number_of (part_ratio r (count_free es ks)) ≡ q
      → and_then (computed line q) (λ share. put_all line (v.Number share) ks es) ≡ Ok after → IsOver d n (total_of ys)
  by_share r c some rest (Ok share) part put = all_left line es after r n share d c ks ys some rest part put all
  by_share r c some rest (Err f) part put = cc

  by_some : (r : Number) → rest_of line es ks n ≡ Ok r → (count_free es ks == 0) ≡ false → (c : ℕ) → count_free es ks ≡ c
      → and_then (share_of line r (count_free es ks)) (λ share. put_all line (v.Number share) ks es) ≡ Ok after → IsOver d n (total_of ys)
  by_some r rest some zero none e = absurd (true≢false (sym (eq-eqb (count_free es ks) 0 none) ∙ some))
  by_some r rest some (suc c) is e = by_share r c is rest (number_of (part_ratio r (count_free es ks))) refl e

  by_count : (r : Number) → rest_of line es ks n ≡ Ok r → (b : Bool) → (count_free es ks == 0) ≡ b → (zero_left : Bool) → int_eq r.numerator (pos 0) ≡ zero_left
      → (if b then (if zero_left then Ok es else Err (at_line line InconsistentInput)) else and_then (share_of line r (count_free es ks)) (λ share. put_all line (v.Number share) ks es)) ≡ Ok after
      → IsOver d n (total_of ys)
  by_count r rest true none true left e =
      let same : after ≡ es = cc in
      none_left line es r n d ks ys (eqb-true (count_free es ks) 0 none) rest ((Decides-int_eq r.numerator (pos 0)).0 left) (subst (λ fs. AllZip (HasOver d fs) ks ys) same all)
  by_count r rest true none false left e = cc
  by_count r rest false some zero_left left e = by_some r rest some (count_free es ks) refl e

  by_rest : (q : Result Number SituationFault) → rest_of line es ks n ≡ q → and_then q (spread line (count_free es ks) ks es) ≡ Ok after → IsOver d n (total_of ys)
  by_rest (Ok r) rest e = by_count r rest (count_free es ks == 0) refl (int_eq r.numerator (pos 0)) refl e
  by_rest (Err f) rest e = cc

pub divided_adds : (line : ℕ) (n : Number) (ks : List Key) (es after : Entries) → divided line n ks es ≡ Ok after → AddUpTo after ks n
divided_adds line n ks es after h d ys some all = by_rest line es after n ks d ys all (rest_of line es ks n) refl h
