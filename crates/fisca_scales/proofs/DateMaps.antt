-- Values by the numbers of their dates, in order of time.
use Rattle.std.proofs.Common.{◌≡◌, ℕ, zero, suc, ◌+◌, Bool, true, false, List, [], ◌∷◌, ◌++◌, map, length, refl, sym, ap, ◌∙◌, arith, append-nil, append_assoc, length-append, Option}
use Rattle.std.proofs.Math.Seq.{get_or-append_seam}
use Rattle.std.specs.BTreeMap.{insert_entry}
use Rattle.std.specs.List.{AllAdjacentBelow, IsAllAdjacentAnswer}
use Rattle.std.specs.List.Sorted.{IsStrictlySortedBy}
use Rattle.std.specs.Map.{keys_of}
use Rattle.std.specs.declared.cmp.Ordering.{Ordering}
use Rattle.std.specs.declared.cmp.Ordering.TheVariants.{Less, Equal, Greater}
use Rattle.std.specs.Ordering.{is_lt, match_ordering, nat_cmp}
use Rattle.std.proofs.lemmas.Bool.{and_from}
use Rattle.fisca_scales.specs.Dates.{Dated, date_of_number}
use Rattle.fisca_scales.specs.Dates.{is_before, is_in_order}
use Rattle.fisca_scales.specs.Steps.Dates.{put_in_time, in_time_with, in_time}
use Rattle.fisca_scales.specs.Dates.{numbered_pair}
use Rattle.fisca_scales.proofs.Days.{days_cmp}
use Rattle.fisca_scales.proofs.Latest.{IsBehind, first_before, tail_in_order, put-behind}

-- the entries of a map from numbers are in order of time
pub in_order-numbers : {V : Type 0} (es : List (ℕ × Option V)) → IsStrictlySortedBy nat_cmp (keys_of es) → is_in_order (map numbered_pair es) ≡ true
unfolding IsStrictlySortedBy
in_order-numbers [] h = refl
in_order-numbers (e ∷ []) h = refl
in_order-numbers (e ∷ f ∷ fs) h =
    and_from (is_before (date_of_number e.0) (date_of_number f.0)) (is_in_order (map numbered_pair (f ∷ fs))) (ap is_lt (days_cmp e.0 f.0 ∙ h.0.0)) (in_order-numbers (f ∷ fs) h.1)

pub map-put : {V : Type 0} (es : List (ℕ × Option V)) (day : ℕ) (v : Option V) →
    map numbered_pair (insert_entry nat_cmp es day v) ≡ put_in_time (record { date = date_of_number day; value = v }) (map numbered_pair es)
map-put [] day v = refl
map-put (e ∷ es) day v = by (nat_cmp day e.0) (map-put es day v) ∙ ap (λ o. match_ordering o (numbered_pair (day, v) ∷ map numbered_pair (e ∷ es)) (numbered_pair (e.0, v) ∷ map numbered_pair es) (numbered_pair e ∷ put_in_time (numbered_pair (day, v)) (map numbered_pair es))) (sym (days_cmp day e.0))
  where
    by : (o : Ordering) → map numbered_pair (insert_entry nat_cmp es day v) ≡ put_in_time (numbered_pair (day, v)) (map numbered_pair es) →
        map numbered_pair (match_ordering o ((day, v) ∷ e ∷ es) ((e.0, v) ∷ es) (e ∷ insert_entry nat_cmp es day v))
        ≡ match_ordering o (numbered_pair (day, v) ∷ map numbered_pair (e ∷ es)) (numbered_pair (e.0, v) ∷ map numbered_pair es) (numbered_pair e ∷ put_in_time (numbered_pair (day, v)) (map numbered_pair es))
    by Less h = refl
    by Equal h = refl
    by Greater h = ap (λ ds. numbered_pair e ∷ ds) h

-- values in order of time, each behind those before it
behind-front : {V : Type 0} (done : List (Dated V)) (d : Dated V) (ds : List (Dated V)) → is_in_order (done ++ d ∷ ds) ≡ true → IsBehind d done
behind-front [] d ds h k e p = absurd (omega arith)
behind-front (x ∷ xs) d ds h zero e p =
    let longer : length (xs ++ d ∷ ds) ≡ length xs + length (d ∷ ds) = length-append xs (d ∷ ds) in
    let before = first_before x (xs ++ d ∷ ds) h (length xs) e (omega (arith, longer)) in
    rw (get_or-append_seam xs d ds e) at before
behind-front (x ∷ xs) d ds h (suc k) e p = behind-front xs d ds (tail_in_order x (xs ++ d ∷ ds) h) k e (omega arith)

in_order-whole : {V : Type 0} (done rest : List (Dated V)) → is_in_order (done ++ rest) ≡ true → in_time_with done rest ≡ done ++ rest
in_order-whole done [] h = sym (append-nil done)
in_order-whole done (d ∷ ds) h =
    let same : (done ++ d ∷ []) ++ ds ≡ done ++ d ∷ ds = append_assoc done (d ∷ []) ds in
    ap (λ s. in_time_with s ds) (put-behind d done (behind-front done d ds h)) ∙ in_order-whole (done ++ d ∷ []) ds (ap is_in_order same ∙ h) ∙ same

-- values whose neighbours are in order are so
in_order-neighbours : {V : Type 0} (ds : List (Dated V)) → AllAdjacentBelow (λ (x y : Dated V). true ≡ is_before x.date y.date) ds (length ds) → is_in_order ds ≡ true
in_order-neighbours [] h = refl
in_order-neighbours (d ∷ []) h = refl
in_order-neighbours (d ∷ e ∷ es) h =
    and_from (is_before d.date e.date) (is_in_order (e ∷ es)) (sym (h zero d (omega arith))) (in_order-neighbours (e ∷ es) (λ k x p. let next : suc k + 1 ≡ suc (k + 1) = omega arith in rw next at (h (suc k) x (omega arith))))

pub in_order-answer : {V : Type 0} (ds : List (Dated V)) (r : Bool) → IsAllAdjacentAnswer (λ (x y : Dated V) b. b ≡ is_before x.date y.date) ds r → r ≡ true → is_in_order ds ≡ true
in_order-answer ds true h t = in_order-neighbours ds h
in_order-answer ds false h t = cc

pub in_time-in_order : {V : Type 0} (ds : List (Dated V)) → is_in_order ds ≡ true → in_time ds ≡ ds
in_time-in_order ds h = in_order-whole [] ds h
