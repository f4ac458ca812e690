-- Defaults of a row of members.
use Rattle.std.proofs.Common.{◌≡◌, ℕ, zero, suc, ◌+◌, ◌<◌, List, [], ◌∷◌, ◌++◌, length, map, Bool, true, false, Some, option_map, slice_get, refl, ap, ◌∙◌, arith, if◌then◌else◌}
use Rattle.std.specs.Prelude.{Ok, Err, nat_lt}
use Rattle.std.specs.List.{range_with_len}
use Rattle.std.proofs.lemmas.Option.{slice_get-map}
use Rattle.fisca_time.specs.Period.{Span}
use Rattle.fisca_inputs.specs.Steps.Defaults.{row_of}
use Rattle.fisca_inputs.specs.Entries.{Entries, key, limit}
use Rattle.fisca_inputs.specs.Steps.Entries.{has, put_free}
use Rattle.fisca_inputs.specs.Faults.{at_line}
use Rattle.fisca_inputs.specs.declared.fault.SituationKind.TheVariants.{TooMany}
use Rattle.fisca_model.specs.declared.value.Value.{Value}
use Rattle.fisca_model.specs.declared.key.Key.{Key}

-- the line is told of a refusal alone
module _ (m n : ℕ) (x : Value) (k : Key) (es : Entries) where
  pub put_at : (new : Entries) → put_free m x k es ≡ Ok new → put_free n x k es ≡ Ok new
  put_at new h = by (has es k) (nat_lt (length es) limit) h
    where
      by : (a b : Bool) → (if a then Ok es else (if b then Ok (es ++ (k, x) ∷ []) else Err (at_line m TooMany))) ≡ Ok new
          → (if a then Ok es else (if b then Ok (es ++ (k, x) ∷ []) else Err (at_line n TooMany))) ≡ Ok new
      by true b e = e
      by false true e = e
      by false false e = cc

pub range_at : (a n i : ℕ) → i < n → slice_get (range_with_len a n) i ≡ Some (a + i)
range_at a zero i h = absurd (omega arith)
range_at a (suc n) zero h = let e : a ≡ a + 0 = omega arith in ap Some e
range_at a (suc n) (suc i) h = let e : a + 1 + i ≡ a + suc i = omega arith in range_at (a + 1) n i (omega arith) ∙ ap Some e

pub row_at : (x count : ℕ) (p : Span) (m : ℕ) → m < count → slice_get (row_of x count p) m ≡ Some (key x m p)
row_at x count p m h =
    let e : 0 + m ≡ m = omega arith in
    slice_get-map (λ j. key x j p) (range_with_len 0 count) m ∙ ap (option_map (λ j. key x j p)) (range_at 0 count m h ∙ ap Some e)

pub length-range : (a n : ℕ) → length (range_with_len a n) ≡ n
length-range a zero = refl
length-range a (suc n) = ap suc (length-range (a + 1) n)

pub length-map : {X Y : Type 0} (f : X → Y) (xs : List X) → length (map f xs) ≡ length xs
length-map f [] = refl
length-map f (x ∷ xs) = ap suc (length-map f xs)

pub length-row : (x count : ℕ) (p : Span) → length (row_of x count p) ≡ count
length-row x count p = length-map (λ j. key x j p) (range_with_len 0 count) ∙ length-range 0 count
