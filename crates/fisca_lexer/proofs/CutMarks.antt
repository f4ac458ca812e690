-- Marks are ASCII.
use Rattle.std.proofs.Common.{◌≡◌, ℕ, ◌<◌, Bool, true, false, ◌==◌, if◌then◌else◌, Option, Some, None, refl, arith, subst}
use Rattle.std.proofs.lemmas.Bool.Decides.{nat_tests}
use Rattle.std.specs.Prelude.{⊤}
use Rattle.fisca_lexer.specs.declared.token.Mark.{Mark}
use Rattle.fisca_lexer.specs.declared.token.Mark.TheVariants as mark
use Rattle.fisca_lexer.specs.Steps.Marks.{is_operator, with_equal, doubled, pair, bracket, operator, punctuation, or_else, single}

-- where there is a mark, the byte is ASCII
abbrev IsLow : ℕ → Option Mark → Type 0
IsLow b None = ⊤
IsLow b (Some m) = b < 128

-- a byte that is this one, or another
test : (b k : ℕ) (m : Mark) (others : Option Mark) → k < 128 → IsLow b others → IsLow b (if b == k then Some m else others)
test b k m others low rest = by (b == k) (λ e. grind (arith, nat_tests)) where
  by : (c : Bool) → (c ≡ true → b ≡ k) → IsLow b (if c then Some m else others)
  by true same = omega (arith, same refl, low)
  by false same = rest

low_operator : (b : ℕ) → is_operator b ≡ true → b < 128
low_operator b e = grind (arith, nat_tests)

low_with_equal : (b : ℕ) → IsLow b (with_equal b)
low_with_equal b = test b 61 _ _ (omega arith) (test b 33 _ _ (omega arith) (test b 60 _ _ (omega arith) (test b 62 _ _ (omega arith) (by (is_operator b) (low_operator b))))) where
  by : (c : Bool) → (c ≡ true → b < 128) → IsLow b (if c then Some mark.Augmented else None)
  by true low = low refl
  by false low = tt

low_doubled : (b : ℕ) → IsLow b (doubled b)
low_doubled b = test b 42 _ _ (omega arith) (test b 47 _ _ (omega arith) tt)

low_bracket : (b : ℕ) → IsLow b (bracket b)
low_bracket b = test b 40 _ _ (omega arith) (test b 41 _ _ (omega arith) (test b 91 _ _ (omega arith) (test b 93 _ _ (omega arith) (test b 123 _ _ (omega arith) (test b 125 _ _ (omega arith) tt)))))

low_mark : (b : ℕ) → IsLow b (operator b)
low_mark b =
    test b 43 _ _ (omega arith) (test b 45 _ _ (omega arith) (test b 42 _ _ (omega arith) (test b 47 _ _ (omega arith) (test b 124 _ _ (omega arith)
    (test b 38 _ _ (omega arith) (test b 126 _ _ (omega arith) (test b 60 _ _ (omega arith) (test b 62 _ _ (omega arith) tt))))))))

low_punctuation : (b : ℕ) → IsLow b (punctuation b)
low_punctuation b = test b 44 _ _ (omega arith) (test b 58 _ _ (omega arith) (test b 46 _ _ (omega arith) (test b 61 _ _ (omega arith) tt)))

either : (b : ℕ) (o p : Option Mark) → IsLow b o → IsLow b p → IsLow b (or_else o p)
either b None p one two = two
either b (Some m) p one two = one

-- a mark of one byte
pub low_single : (b : ℕ) (m : Mark) → single b ≡ Some m → b < 128
low_single b m e = subst (IsLow b) e (either b (bracket b) (or_else (operator b) (punctuation b)) (low_bracket b) (either b (operator b) (punctuation b) (low_mark b) (low_punctuation b)))

-- a mark of two bytes
pub low_pair : (b c : ℕ) (m : Mark) → pair b c ≡ Some m → (b < 128) × (c < 128)
low_pair b c m e = by (c == 61) (b == c) (λ e. grind (arith, nat_tests)) (λ e. grind (arith, nat_tests)) e where
  by : (p q : Bool) → (p ≡ true → c ≡ 61) → (q ≡ true → b ≡ c) → (if p then with_equal b else (if q then doubled b else None)) ≡ Some m → (b < 128) × (c < 128)
  by true q one two e = (subst (IsLow b) e (low_with_equal b), omega (arith, one refl))
  by false true one two e = let low : b < 128 = subst (IsLow b) e (low_doubled b) in (low, omega (arith, two refl, low))
  by false false one two e = cc
