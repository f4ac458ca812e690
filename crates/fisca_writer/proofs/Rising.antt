-- The positions of lines rise.
use Rattle.std.proofs.Common.{◌≡◌, ℕ, zero, suc, ◌+◌, ◌-◌, ◌<◌, ◌≤◌, List, [], ◌∷◌, Option, Some, None, take, map, length, refl, sym, arith, subst, slice_index, All}
use Rattle.std.specs.List.Sorted.{IsStrictlyIncreasing}
use Rattle.std.specs.List.{AllByRecursion}
use Rattle.std.proofs.lemmas.List.Elements.{All-from_recursion}
use Rattle.fisca_writer.specs.Row.{Row, Nothing, Line, Fault}
use Rattle.fisca_writer.specs.Lines.{all_lines, lines}
use Rattle.fisca_writer.proofs.Walk.{lines_after, all_lines-step, all_lines-over}
use Rattle.fisca_writer.proofs.Progress.{IsFrom, from_take, lines-from}

-- each position is below those after it
abbrev pub IsRising : List (ℕ × List ℕ) → Type 0
IsRising [] = Unit {0}
IsRising (line ∷ rest) = IsFrom (line.0 + 1) rest × IsRising rest

-- they are positions of the grid from a start on
abbrev pub IsWithin : ℕ → ℕ → List (ℕ × List ℕ) → Type 0
IsWithin size from = AllByRecursion (λ line. (from ≤ line.0) × (line.0 < size))

rising_after : {F : Type 0} (row : Row F) (position : ℕ) (rest : List (ℕ × List ℕ)) → IsFrom (position + 1) rest → IsRising rest → IsRising (lines_after row position rest)
rising_after Nothing position rest above rising = rising
rising_after (Line text) position rest above rising = (above, rising)
rising_after (Fault x) position rest above rising = tt

rising_all : {F : Type 0} (row : ℕ → Row F) (size from count : ℕ) → count ≡ size - from → IsRising (all_lines row size from)
rising_all row size from zero is = subst IsRising (sym (all_lines-over row size from (omega arith))) tt
rising_all row size from (suc count) is =
    subst IsRising (sym (all_lines-step row size from (omega arith))) (rising_after (row from) from _ (lines-from row size (from + 1) None) (rising_all row size (from + 1) count (omega arith)))

rising_taken : (count : ℕ) (xs : List (ℕ × List ℕ)) → IsRising xs → IsRising (take count xs)
rising_taken zero xs rising = tt
rising_taken (suc count) [] rising = tt
rising_taken (suc count) (line ∷ rest) rising = (from_take _ count rest rising.0, rising_taken count rest rising.1)

rising_lines : {F : Type 0} (row : ℕ → Row F) (size from : ℕ) (limit : Option ℕ) → IsRising (lines row size from limit)
rising_lines row size from None = rising_all row size from (size - from) refl
rising_lines row size from (Some limit) = rising_taken limit _ (rising_all row size from (size - from) refl)

increasing : (xs : List (ℕ × List ℕ)) (i j : ℕ) → IsRising xs → j ≡ i + 1 → j < length (map (λ line. line.0) xs) → slice_index (map (λ line. line.0) xs) i < slice_index (map (λ line. line.0) xs) j
increasing [] i j rising is within = absurd (omega arith)
increasing (line ∷ []) i j rising is within = absurd (omega arith)
increasing (line ∷ next ∷ rest) zero zero rising is within = absurd (omega arith)
increasing (line ∷ next ∷ rest) zero (suc zero) rising is within = let first = rising.0.0 in omega arith
increasing (line ∷ next ∷ rest) zero (suc (suc j)) rising is within = absurd (omega arith)
increasing (line ∷ next ∷ rest) (suc i) zero rising is within = absurd (omega arith)
increasing (line ∷ next ∷ rest) (suc i) (suc j) rising is within = increasing (next ∷ rest) i j rising.1 (omega arith) (omega arith)

pub rising_law : {F : Type 0} (row : ℕ → Row F) (size from : ℕ) (limit : Option ℕ) → IsStrictlyIncreasing (map (λ line. line.0) (lines row size from limit))
rising_law row size from limit = λ k within. increasing (lines row size from limit) k (k + 1) (rising_lines row size from limit) refl within

within_more : (size from : ℕ) (xs : List (ℕ × List ℕ)) → IsWithin size (from + 1) xs → IsWithin size from xs
within_more size from [] within = tt
within_more size from (line ∷ rest) within = let first = within.0.0 in ((omega arith, within.0.1), within_more size from rest within.1)

within_after : {F : Type 0} (row : Row F) (size position : ℕ) (rest : List (ℕ × List ℕ)) → position < size → IsWithin size position rest → IsWithin size position (lines_after row position rest)
within_after Nothing size position rest below within = within
within_after (Line text) size position rest below within = ((omega arith, below), within)
within_after (Fault x) size position rest below within = tt

within_all : {F : Type 0} (row : ℕ → Row F) (size from count : ℕ) → count ≡ size - from → IsWithin size from (all_lines row size from)
within_all row size from zero is = subst (IsWithin size from) (sym (all_lines-over row size from (omega arith))) tt
within_all row size from (suc count) is =
    subst (IsWithin size from) (sym (all_lines-step row size from (omega arith))) (within_after (row from) size from _ (omega arith) (within_more size from _ (within_all row size (from + 1) count (omega arith))))

within_taken : (size from count : ℕ) (xs : List (ℕ × List ℕ)) → IsWithin size from xs → IsWithin size from (take count xs)
within_taken size from zero xs within = tt
within_taken size from (suc count) [] within = tt
within_taken size from (suc count) (line ∷ rest) within = (within.0, within_taken size from count rest within.1)

within_lines : {F : Type 0} (row : ℕ → Row F) (size from : ℕ) (limit : Option ℕ) → IsWithin size from (lines row size from limit)
within_lines row size from None = within_all row size from (size - from) refl
within_lines row size from (Some limit) = within_taken size from limit _ (within_all row size from (size - from) refl)

pub within_law : {F : Type 0} (row : ℕ → Row F) (size from : ℕ) (limit : Option ℕ) → All (λ line. (from ≤ line.0) × (line.0 < size)) (lines row size from limit)
within_law row size from limit = All-from_recursion _ _ (within_lines row size from limit)
