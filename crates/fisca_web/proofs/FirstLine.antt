-- The first line of a text, and the others.
use Rattle.std.proofs.Common.{◌≡◌, ◌<◌, ◌≤◌, ◌+◌, ◌-◌, ◌^◌, ℕ, zero, suc, ◌==◌, Bool, true, false, cond, List, [], ◌∷◌, length, take, drop, refl, sym, subst, ap, ◌∙◌}
use native.Mathlib.Numerals.{unary_clauses}
use native.Mathlib.Omega.{arith}
use Rattle.std.proofs.Math.Seq.{drop-length}
use Rattle.std.proofs.lemmas.List.{take_rest}
use Rattle.memchr.specs.Find.{NoneBefore, Nowhere, Passes, is_byte}
use Rattle.fisca_web.specs.TextLines.{begun_by, lines_of}

-- a line feed begins a line anew, another byte stands in the first line
fed : (is : Bool) (byte : ℕ) (others : List (List ℕ)) → is ≡ true → cond is ([] ∷ others) (begun_by byte others) ≡ [] ∷ others
fed true byte others e = refl
fed false byte others e = absurd cc

unfed : (is : Bool) (byte : ℕ) (others : List (List ℕ)) → (is ≡ true → ⊥) → cond is ([] ∷ others) (begun_by byte others) ≡ begun_by byte others
unfed true byte others lacks = absurd (lacks refl)
unfed false byte others lacks = refl

-- up to the first line feed stands the first line
pub first_line : (text : List ℕ) (at : ℕ) → Passes (is_byte 10) text at → Nowhere (Passes (is_byte 10) text) 0 at → at < length text
    → lines_of text ≡ take at text ∷ lines_of (drop (suc at) text)
first_line [] at is lacks low = absurd omega arith
first_line (byte ∷ text) zero is lacks low = fed (byte == 10) byte (lines_of text) is
first_line (byte ∷ text) (suc at) is lacks low =
    unfed (byte == 10) byte (lines_of text) (lacks 0 (omega arith) (omega arith))
    ∙ ap (begun_by byte) (first_line text at is (λ k above below. lacks (suc k) (omega arith) (omega arith)) (omega arith))

-- a text without a line feed is one line
pub only_line : (text : List ℕ) → Nowhere (Passes (is_byte 10) text) 0 (length text) → 0 < length text → lines_of text ≡ text ∷ []
only_line [] lacks low = absurd omega arith
only_line (byte ∷ []) lacks low = unfed (byte == 10) byte [] (lacks 0 (omega arith) (omega arith))
only_line (byte ∷ next ∷ text) lacks low =
    unfed (byte == 10) byte (lines_of (next ∷ text)) (lacks 0 (omega arith) (omega arith))
    ∙ ap (begun_by byte) (only_line (next ∷ text) (λ k above below. lacks (suc k) (omega arith) (omega arith)) (omega arith))

longer : (is : Bool) (byte : ℕ) (others : List (List ℕ)) (n : ℕ) → length others ≤ n → length (cond is ([] ∷ others) (begun_by byte others)) ≤ suc n
longer true byte others n few = omega arith
longer false byte [] n few = omega arith
longer false byte (line ∷ lines) n few = omega arith

-- a text has no more lines than bytes
pub few_lines : (text : List ℕ) → length (lines_of text) ≤ length text
few_lines [] = omega arith
few_lines (byte ∷ text) = longer (byte == 10) byte (lines_of text) (length text) (few_lines text)

-- the same of the rest of a text behind a place
pub split_at : (text : List ℕ) (at : ℕ) → NoneBefore (Passes (is_byte 10) text) 0 (length text) at × Passes (is_byte 10) text at
    → lines_of text ≡ take at text ∷ lines_of (take (length text - (at + 1)) (drop (at + 1) text))
split_at text at is = first ∙ ap (λ rest. take at text ∷ lines_of rest) (sym (take_rest text (at + 1)))
  where
    first : lines_of text ≡ take at text ∷ lines_of (drop (at + 1) text)
    first = simp unary_clauses (first_line text at is.1 is.0.before is.0.high)

pub split_none : (text : List ℕ) → Nowhere (Passes (is_byte 10) text) 0 (length text) → 0 < length text
    → lines_of text ≡ text ∷ lines_of (take (length text - length text) (drop (length text) text))
split_none text lacks low =
    only_line text lacks low
    ∙ ap (λ rest. text ∷ lines_of rest) (sym (take_rest text (length text) ∙ drop-length text))

pub few : (lines : List (List ℕ)) (text : List ℕ) → lines ≡ lines_of text → length text < 2 ^ 63 → length lines < 2 ^ 63
few lines text is low = subst (λ (ls : List (List ℕ)). length ls < 2 ^ 63) (sym is) (within (length (lines_of text)) (length text) (few_lines text) low)
  where
    within : (m n : ℕ) → m ≤ n → n < 2 ^ 63 → m < 2 ^ 63
    within m n le low = omega arith
