-- Long division, a place at a time.
use Rattle.std.proofs.Common.{◌≡◌, ℕ, zero, suc, ◌+◌, ◌*◌, ◌-◌, ◌/◌, ◌%◌, ◌^◌, ◌<◌, ◌≤◌, List, [], ◌∷◌, ◌++◌, length, drop, take, set, arith, refl, ap, sym, ◌∙◌, inl, inr}
use Rattle.std.specs.Int.{◌∣◌}
use Rattle.std.specs.Str.Parse.{AllDigits, digits_value}
use Rattle.std.proofs.lemmas.Int.Digits.{digits_value_push, digits_push}
use Rattle.std.proofs.lemmas.List.{take_more_set, drop-append-le, length-take, drop_all, append-nil}
use Rattle.std.proofs.Math.Seq.{take-length}
use Rattle.std.proofs.lemmas.Nat.Gcd.{mod-eq-zero_of_dvd}
use Rattle.std.proofs.lemmas.Nat.{mod-mul-add, pow-add}
use Rattle.std.proofs.lemmas.Bool.{cases_lt}
use Rattle.std.proofs.Math.Nat.{mul-div_cancel', mul-div-le, mod-add-div', mul-le-mul_left, dvd-mul_left_of_dvd, eq-one_of_dvd-one}
use Rattle.fisca_num.specs.Numeral.{pointed}
use Rattle.fisca_num.specs.Part.{IsPart}
use Rattle.fisca_num.specs.Digits.{padded, digits-padded, value-padded, value-digit, ten_pos}

-- k places of rest / d are the digits ps, and left is left over
pub record IsDivided (rest d left k : ℕ) (ps : List ℕ) : Type 0 where
  pub small : left < d
  pub digits : AllDigits 10 ps
  pub value : rest * 10 ^ k ≡ digits_value 10 ps * d + left

below_ten : (left d : ℕ) → left < d → 10 * left / d < 10
below_ten left d h =
    elim (cases_lt (10 * left / d) 10) [
      | inl p ↦ p
      | inr p ↦ absurd (omega (arith, mul-div-le (10 * left) d, mul-le-mul_left d p))
    ]

pub divided_more : (rest d left k : ℕ) (ps : List ℕ) → IsDivided rest d left k ps → IsDivided rest d (10 * left % d) (k + 1) (ps ++ ((48 + 10 * left / d) ∷ []))
divided_more rest d left k ps x =
    let small : left < d = x.small in
    let digit = value-digit (10 * left / d) (below_ten left d small) in
    record {
      small = omega arith;
      digits = digits_push 10 ps (48 + 10 * left / d) x.digits (rw digit (below_ten left d small));
      value = omega (arith, x.value, ap (λ z. rest * z) (pow-add 10 k 1), ap (λ z. z * d) (digits_value_push 10 ps (48 + 10 * left / d)), ap (λ z. z * d) digit, mod-add-div' (10 * left) d);
    }

pub take_step : (xs : List ℕ) (start i y : ℕ) → start ≤ i → i < length xs → drop start (take (i + 1) (set xs i y)) ≡ drop start (take i xs) ++ (y ∷ [])
take_step xs start i y le h = ap (drop start) (take_more_set xs i y h) ∙ drop-append-le start (take i xs) (y ∷ []) (omega (arith, length-take i xs))

-- at the end nothing is left
pub divided_all : (rest d left k : ℕ) (ps : List ℕ) → d ∣ 10 ^ k → IsDivided rest d left k ps → rest * 10 ^ k ≡ digits_value 10 ps * d
divided_all rest d left k ps h x =
    let none : left ≡ 0 = sym (mod-mul-add (digits_value 10 ps) d left x.small) ∙ ap (λ n. n % d) (sym x.value) ∙ mod-eq-zero_of_dvd d (dvd-mul_left_of_dvd d h rest) in
    x.value ∙ omega arith

part_below : (rest d q ten : ℕ) → rest < d → d * q ≡ ten → 0 < ten → rest * q < ten
part_below rest zero q ten small e some = absurd (omega arith)
part_below rest (suc d) zero ten small e some = absurd (omega (arith, e))
part_below rest (suc d) (suc q) ten small e some = omega (arith, e, mul-le-mul_left (suc q) small)

-- the places as one number
pub word_places : (rest d k : ℕ) → rest < d → d ∣ 10 ^ k → rest * 10 ^ k ≡ digits_value 10 (padded k (rest * (10 ^ k / d))) * d
word_places rest d k small h =
    let ten : d * (10 ^ k / d) ≡ 10 ^ k = mul-div_cancel' d h in
    let below : rest * (10 ^ k / d) < 10 ^ k = part_below rest d (10 ^ k / d) (10 ^ k) small ten (ten_pos k) in
    rw (value-padded k (rest * (10 ^ k / d)) below) (omega (arith, ap (λ z. rest * z) ten))

pub divided_end : (rest d left start i n : ℕ) (xs : List ℕ) → i ≡ length xs → length xs ≡ n → d ∣ 10 ^ (n - start) → IsDivided rest d left (i - start) (drop start (take i xs)) → rest * 10 ^ (n - start) ≡ digits_value 10 (drop start xs) * d
divided_end rest d left start i n xs e f h x =
    let all : take i xs ≡ xs = ap (λ j. take j xs) e ∙ take-length xs in
    divided_all rest d left (n - start) (drop start xs) h (rw (all, e, f) at x)

-- ---- the point and the places

pub part_none : (rest d k : ℕ) (text : List ℕ) → rest < d → d ∣ 10 ^ k → k ≡ 0 → text ≡ [] → IsPart rest d k text
part_none rest d k text small h zero_count e =
    let one : d ≡ 1 = eq-one_of_dvd-one (rw zero_count at h) in
    record { places = []; written = e; digits = tt; size = sym zero_count; value = omega (arith, ap (λ z. rest * 10 ^ z) zero_count) }

pointed_some : (ps : List ℕ) → 0 < length ps → 46 ∷ ps ≡ pointed ps
pointed_some [] h = absurd (omega arith)
pointed_some (p ∷ ps) h = refl

-- the places that a text has
pub record IsPlaces (rest d k : ℕ) (ps : List ℕ) : Type 0 where
  pub digits : AllDigits 10 ps
  pub value : rest * 10 ^ k ≡ digits_value 10 ps * d

pub part_some : (rest d k : ℕ) (ps text : List ℕ) → 0 < k → length ps ≡ k → IsPlaces rest d k ps → text ≡ 46 ∷ ps → IsPart rest d k text
part_some rest d k ps text some size x e = record { places = ps; written = e ∙ pointed_some ps (rw size some); digits = x.digits; size = size; value = x.value }

pub places_as_word : (rest d k ten n : ℕ) (ps old : List ℕ) → rest < d → d ∣ 10 ^ k → ten ≡ 10 ^ k → length old ≤ n → ps ≡ padded k (rest * (ten / d)) ++ drop n old → IsPlaces rest d k ps
places_as_word rest d k ten n ps old small h e past f =
    let is : ps ≡ padded k (rest * (10 ^ k / d)) = f ∙ rw (e, drop_all n old past) (append-nil _) in
    rw is (record { digits = digits-padded k (rest * (10 ^ k / d)); value = word_places rest d k small h })
