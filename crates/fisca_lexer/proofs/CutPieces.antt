-- A piece in front of a text ends between two characters of it.
use Rattle.std.proofs.Common.{◌≡◌, ℕ, suc, ◌+◌, ◌-◌, ◌<◌, List, [], ◌∷◌, length, take, drop, cond, Bool, true, false, not, ◌==◌, ◌&&◌, nat_lt, if◌then◌else◌, Option, Some, None, Result, Ok, Err, refl, subst, arith, IsUtf8, IsCharBoundary}
use Rattle.std.proofs.lemmas.Bool.Decides.{nat_tests}
use Rattle.std.proofs.lemmas.Str.{IsUtf8-drop, IsCharBoundary-start, IsCharBoundary-after_ascii, IsCharBoundary-from_rest}
use Rattle.std.specs.Char.{is_ascii_digit}
use Rattle.std.specs.List.{prefix_len}
use Rattle.std.specs.Prelude.{⊤}
use Rattle.fisca_num.specs.declared.faults.NumFault.{NumFault}
use Rattle.fisca_num.specs.declared.faults.NumFault.TheVariants.{TooWide, ZeroDivisor, NotANumber, Memory}
use Rattle.fisca_num.specs.Literal.{number_of_literal}
use Rattle.fisca_num.specs.Number.{Number}
use Rattle.fisca_ast.specs.declared.fault.FormulaKind.{FormulaKind}
use Rattle.fisca_ast.specs.declared.fault.FormulaKind.TheVariants as kind
use Rattle.fisca_ast.specs.Strings.{begins_quote, is_quote, is_prefix, is_format, in_comment}
use Rattle.fisca_ast.specs.Steps.Strings.{begins, string_len}
use Rattle.fisca_ast.proofs.InQuotes.{string_cut, quote_ascii}
use Rattle.fisca_lexer.specs.declared.token.Class.TheVariants as class
use Rattle.fisca_lexer.specs.declared.token.Mark.{Mark}
use Rattle.fisca_lexer.specs.declared.token.Piece.{Piece}
use Rattle.fisca_lexer.specs.Steps.Marks.{pair, single}
use Rattle.fisca_lexer.specs.Steps.Pieces as steps
use Rattle.fisca_lexer.proofs.CutMarks.{low_single, low_pair}

abbrev pub IsCutBehind : List ℕ → Result Piece FormulaKind → Type 0
IsCutBehind text (Ok p) = IsCharBoundary text p.length
IsCutBehind text (Err k) = ⊤

choose : (text : List ℕ) (c : Bool) (a b : Result Piece FormulaKind) → (c ≡ true → IsCutBehind text a) → (c ≡ false → IsCutBehind text b) → IsCutBehind text (if c then a else b)
choose text true a b one two = one refl
choose text false a b one two = two refl

-- Places behind ASCII

first_cut : (b : ℕ) (bs : List ℕ) → IsUtf8 (b ∷ bs) → b < 128 → IsCharBoundary (b ∷ bs) 1
first_cut b bs utf8 low = IsCharBoundary-after_ascii (b ∷ bs) 0 utf8 (omega arith) low

behind_first : (b : ℕ) (bs : List ℕ) → IsUtf8 (b ∷ bs) → b < 128 → IsUtf8 bs
behind_first b bs utf8 low = IsUtf8-drop (b ∷ bs) 1 utf8 (first_cut b bs utf8 low)

one_later : (b : ℕ) (bs : List ℕ) (n : ℕ) → IsCharBoundary bs n → IsCharBoundary (b ∷ bs) (suc n)
one_later b bs n cut = (omega (arith, cut.0), λ less high. cut.1 (omega (arith, less)) high)

one_more : (b : ℕ) (bs : List ℕ) (n : ℕ) → IsCharBoundary bs n → IsCharBoundary (b ∷ bs) (1 + n)
one_more b bs n cut = let same : suc n ≡ 1 + n = omega arith in subst (IsCharBoundary (b ∷ bs)) same (one_later b bs n cut)

two_cut : (b c : ℕ) (bs : List ℕ) → IsUtf8 (b ∷ c ∷ bs) → b < 128 → c < 128 → IsCharBoundary (b ∷ c ∷ bs) 2
two_cut b c bs utf8 low next = one_later b (c ∷ bs) 1 (first_cut c bs (behind_first b (c ∷ bs) utf8 low) next)

-- behind a place stands another
then_cut : (m n : ℕ) (text : List ℕ) → IsUtf8 text → IsCharBoundary text m → (IsUtf8 (drop m text) → IsCharBoundary (drop m text) n) → IsCharBoundary text (m + n)
then_cut m n text utf8 cut rest = IsCharBoundary-from_rest text m n cut.0 (rest (IsUtf8-drop text m utf8 cut))

-- behind all bytes that pass a test of ASCII bytes
prefix_cut : (p : ℕ → Bool) → ((b : ℕ) → p b ≡ true → b < 128) → (text : List ℕ) → IsUtf8 text → IsCharBoundary text (prefix_len p text)
prefix_cut p low [] utf8 = IsCharBoundary-start [] utf8
prefix_cut p low (b ∷ bs) utf8 = by (p b) (low b) (prefix_cut p low bs) where
  by : (c : Bool) → (c ≡ true → b < 128) → (IsUtf8 bs → IsCharBoundary bs (prefix_len p bs)) → IsCharBoundary (b ∷ bs) (cond c (1 + prefix_len p bs) 0)
  by true low_b rest = one_more b bs (prefix_len p bs) (rest (behind_first b bs utf8 (low_b refl)))
  by false low_b rest = IsCharBoundary-start (b ∷ bs) utf8

-- Numbers

digit_ascii : (b : ℕ) → is_ascii_digit b ≡ true → b < 128
digit_ascii b e = grind (arith, nat_tests)

digits_cut : (after : Bool) (text : List ℕ) → IsUtf8 text → IsCharBoundary text (steps.digits_len after text)
digits_cut after [] utf8 = IsCharBoundary-start [] utf8
digits_cut after (b ∷ bs) utf8 = by (is_ascii_digit b) (digit_ascii b) after (b == 95) (λ e. grind (arith, nat_tests)) (steps.begins_digit bs) (λ after. digits_cut after bs) where
  by : (d : Bool) → (d ≡ true → b < 128) → (after underscore : Bool) → (underscore ≡ true → b < 128) → (more : Bool) → ((after : Bool) → IsUtf8 bs → IsCharBoundary bs (steps.digits_len after bs)) →
      IsCharBoundary (b ∷ bs) (if d then suc (steps.digits_len true bs) else (if after && (underscore && more) then suc (steps.digits_len false bs) else 0))
  by true low after underscore mark more rest = one_later b bs (steps.digits_len true bs) (rest true (behind_first b bs utf8 (low refl)))
  by false low true true mark true rest = one_later b bs (steps.digits_len false bs) (rest false (behind_first b bs utf8 (mark refl)))
  by false low true true mark false rest = IsCharBoundary-start (b ∷ bs) utf8
  by false low true false mark more rest = IsCharBoundary-start (b ∷ bs) utf8
  by false low false underscore mark more rest = IsCharBoundary-start (b ∷ bs) utf8

point_cut : (bs : List ℕ) → begins 46 bs ≡ true → IsUtf8 bs → IsCharBoundary bs 1
point_cut [] e utf8 = cc
point_cut (b ∷ bs) e utf8 = first_cut b bs utf8 (grind (arith, nat_tests))

number_cut : (text : List ℕ) → IsUtf8 text → IsCharBoundary text (steps.number_len text)
number_cut text utf8 = by (begins 46 (drop (steps.digits_len false text) text)) refl where
  by : (c : Bool) → begins 46 (drop (steps.digits_len false text) text) ≡ c →
      IsCharBoundary text (if c then steps.digits_len false text + 1 + steps.digits_len false (drop (steps.digits_len false text + 1) text) else steps.digits_len false text)
  by true e =
      let digits = steps.digits_len false text in
      then_cut (digits + 1) (steps.digits_len false (drop (digits + 1) text)) text utf8
      (then_cut digits 1 text utf8 (digits_cut false text utf8) (point_cut (drop digits text) e)) (digits_cut false (drop (digits + 1) text))
  by false e = digits_cut false text utf8

judged_cut : (n : ℕ) (text : List ℕ) (r : Result Number NumFault) → IsCharBoundary text n → IsCutBehind text (steps.judged n r)
judged_cut n text (Ok v) cut = cut
judged_cut n text (Err TooWide) cut = tt
judged_cut n text (Err ZeroDivisor) cut = tt
judged_cut n text (Err NotANumber) cut = tt
judged_cut n text (Err Memory) cut = tt

number_behind : (n : ℕ) (text : List ℕ) → IsCharBoundary text n → IsCutBehind text (steps.number n text)
number_behind n text cut = choose text (steps.begins_exponent (drop n text)) _ _ (λ _. tt) (λ _. judged_cut n text (number_of_literal (take n text)) cut)

-- Words and texts in quotes

string_behind : (n : ℕ) (text : List ℕ) → IsUtf8 text → IsCharBoundary text n → begins_quote (drop n text) ≡ true → IsCutBehind text (steps.string n text)
string_behind n text utf8 cut quote = by (string_len (drop n text)) (λ m e utf8. inside (drop n text) m quote utf8 e) where
  inside : (bs : List ℕ) (m : ℕ) → begins_quote bs ≡ true → IsUtf8 bs → string_len bs ≡ Some m → IsCharBoundary bs m
  inside [] m quote utf8 e = cc
  inside (q ∷ bs) m quote utf8 e = string_cut q bs m (quote_ascii q quote) utf8 e

  by : (o : Option ℕ) → ((m : ℕ) → o ≡ Some m → IsUtf8 (drop n text) → IsCharBoundary (drop n text) m) → IsCutBehind text (steps.closed n text o)
  by None h = tt
  by (Some m) h = then_cut n m text utf8 cut (h m refl)

word_ascii : (b : ℕ) → steps.is_word_byte b ≡ true → b < 128
word_ascii b e = grind (arith, nat_tests)

word_behind : (n : ℕ) (text : List ℕ) → IsUtf8 text → IsCharBoundary text n → IsCutBehind text (steps.word n text)
word_behind n text utf8 cut = by (begins_quote (drop n text)) refl where
  by : (q : Bool) → begins_quote (drop n text) ≡ q →
      IsCutBehind text (if not q then steps.token class.Word n else (if is_prefix (take n text) then steps.string n text else (if is_format (take n text) then Err kind.Unsupported else steps.token class.Word n)))
  by false e = cut
  by true e =
      choose text (is_prefix (take n text)) _ _ (λ _. string_behind n text utf8 cut e)
      (λ _. choose text (is_format (take n text)) _ _ (λ _. tt) (λ _. cut))

-- Marks and what is left

one_behind : (b : ℕ) (bs : List ℕ) → IsUtf8 (b ∷ bs) → (o : Option Mark) → single b ≡ o → IsCutBehind (b ∷ bs) (steps.one_mark (b ∷ bs) o)
one_behind b bs utf8 None e = tt
one_behind b bs utf8 (Some m) e = first_cut b bs utf8 (low_single b m e)

mark_behind : (text : List ℕ) → IsUtf8 text → IsCutBehind text (steps.marked text)
mark_behind [] utf8 = tt
mark_behind (b ∷ []) utf8 = one_behind b [] utf8 (single b) refl
mark_behind (b ∷ c ∷ bs) utf8 = by (pair b c) refl where
  by : (o : Option Mark) → pair b c ≡ o → IsCutBehind (b ∷ c ∷ bs) (steps.two_marks (b ∷ c ∷ bs) b o)
  by None e = one_behind b (c ∷ bs) utf8 (single b) refl
  by (Some m) e = let low = low_pair b c m e in two_cut b c bs utf8 low.0 low.1

comment_cut : (text : List ℕ) → IsCharBoundary text (prefix_len in_comment text)
comment_cut [] = (omega arith, λ less high. absurd (omega (arith, less)))
comment_cut (b ∷ bs) = by (b == 10) (λ e. grind (arith, nat_tests)) (comment_cut bs) where
  by : (c : Bool) → (c ≡ true → b ≡ 10) → IsCharBoundary bs (prefix_len in_comment bs) → IsCharBoundary (b ∷ bs) (cond (not c) (1 + prefix_len in_comment bs) 0)
  by true same rest = (omega arith, λ less high. absurd (omega (arith, same refl, high)))
  by false same rest = one_more b bs (prefix_len in_comment bs) rest

blank_ascii : (b : ℕ) → steps.is_blank b ≡ true → b < 128
blank_ascii b e = grind (arith, nat_tests)

return_behind : (b : ℕ) (bs : List ℕ) → IsUtf8 (b ∷ bs) → b < 128 → begins 10 bs ≡ true → IsCharBoundary (b ∷ bs) 2
return_behind b [] utf8 low e = cc
return_behind b (c ∷ bs) utf8 low e = two_cut b c bs utf8 low (grind (arith, nat_tests))

other_behind : (text : List ℕ) → IsUtf8 text → IsCutBehind text (steps.other text)
other_behind [] utf8 = tt
other_behind (b ∷ bs) utf8 =
    choose (b ∷ bs) (steps.is_blank b) _ _ (λ _. prefix_cut steps.is_blank blank_ascii (b ∷ bs) utf8)
    (λ _. choose (b ∷ bs) (b == 35) _ _ (λ _. comment_cut (b ∷ bs))
    (λ _. choose (b ∷ bs) (b == 10) _ _ (λ e. first_cut b bs utf8 (grind (arith, nat_tests)))
    (λ _. choose (b ∷ bs) (b == 13) _ _ (λ r. choose (b ∷ bs) (begins 10 bs) _ _ (λ e. return_behind b bs utf8 (grind (arith, nat_tests)) e) (λ _. tt))
    (λ _. choose (b ∷ bs) (is_quote b) _ _ (λ q. string_behind 0 (b ∷ bs) utf8 (IsCharBoundary-start (b ∷ bs) utf8) q) (λ _. mark_behind (b ∷ bs) utf8)))))

pub front_behind : (text : List ℕ) → IsUtf8 text → IsCutBehind text (steps.front text)
front_behind text utf8 =
    choose text (steps.begins_number text) _ _ (λ _. number_behind (steps.number_len text) text (number_cut text utf8))
    (λ _. choose text (nat_lt 0 (prefix_len steps.is_word_byte text)) _ _ (λ _. word_behind (prefix_len steps.is_word_byte text) text utf8 (prefix_cut steps.is_word_byte word_ascii text utf8))
    (λ _. other_behind text utf8))
