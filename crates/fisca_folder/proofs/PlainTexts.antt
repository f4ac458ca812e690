-- Texts of printable characters of ASCII, which are shown as they are.
use Rattle.std.proofs.Common.{◌≡◌, ◌<◌, ◌-◌, ◌/◌, ◌%◌, ◌++◌, ◌&&◌, ◌∙◌, ℕ, Bool, List, [], ◌∷◌, true, false, cond, if◌then◌else◌, nat_lt, codes, flat_map, refl, ap, sym, arith, Result, Ok, Err, OnOk}
use Rattle.std.proofs.lemmas.Bool.Decides.{nat_tests}
use Rattle.std.proofs.lemmas.Str.{encode_ascii}
use Rattle.std.specs.Result.{is_ok}
use Rattle.std.specs.Char.{is_control, encode_utf8}
use Rattle.std.specs.Str.{chars, chars_after, continuation_len, lead_bits}
use Rattle.fisca_folder.specs.Shown.{shown, shown_char, shown_mark, two_digits}
use Rattle.fisca_folder.specs.Steps.PlainTexts.{is_plain, is_printable}
use Rattle.fisca_folder.specs.Steps.Shown.{is_mark}

first_of : (a b : Bool) → a && b ≡ true → a ≡ true
first_of true b e = refl
first_of false b e = e

rest_of : (a b : Bool) → a && b ≡ true → b ≡ true
rest_of true b e = e
rest_of false b e = cc

is_low : (c : ℕ) → is_printable c ≡ true → nat_lt c 128 ≡ true
is_low c e = grind (arith, nat_tests, e)

no_control : (c : ℕ) → is_printable c ≡ true → is_control c ≡ false
no_control c e = grind (arith, nat_tests, e)

no_mark : (c : ℕ) → is_printable c ≡ true → is_mark c ≡ false
no_mark c e = grind (arith, nat_tests, e)

-- such a character is shown as itself, in one byte
shown_as_itself : (c : ℕ) → is_printable c ≡ true → shown_char c ≡ c ∷ []
shown_as_itself c e =
    ap (λ test. if test then codes "\\x" ++ two_digits c else if is_mark c then shown_mark c else encode_utf8 c) (no_control c e)
    ∙ ap (λ test. if test then shown_mark c else encode_utf8 c) (no_mark c e)
    ∙ encode_ascii c (grind (arith, nat_tests, is_low c e))

-- a byte below 128 is a character by itself
by_test : Bool → ℕ → List ℕ → List ℕ
by_test test c cs = chars_after (cond test 0 (cond (nat_lt c 224) 1 (cond (nat_lt c 240) 2 3))) (cond test c (cond (nat_lt c 224) (c - 192) (cond (nat_lt c 240) (c - 224) (c - 240)))) cs

own_characters : (c : ℕ) (cs : List ℕ) → is_printable c ≡ true → is_plain cs ≡ true → chars_after (continuation_len c) (lead_bits c) cs ≡ c ∷ cs
unfolding by_test
own_characters c [] low plain = ap (λ test. by_test test c []) (is_low c low)
own_characters c (d ∷ ds) low plain =
    ap (λ test. by_test test c (d ∷ ds)) (is_low c low)
    ∙ ap (λ rest. c ∷ rest) (own_characters d ds (first_of (is_printable d) (is_plain ds) plain) (rest_of (is_printable d) (is_plain ds) plain))

all_as_themselves : (cs : List ℕ) → is_plain cs ≡ true → flat_map shown_char cs ≡ cs
all_as_themselves [] plain = refl
all_as_themselves (c ∷ cs) plain =
    ap (λ front. front ++ flat_map shown_char cs) (shown_as_itself c (first_of (is_printable c) (is_plain cs) plain))
    ∙ ap (λ rest. c ∷ rest) (all_as_themselves cs (rest_of (is_printable c) (is_plain cs) plain))

-- a plain text is shown as it is
pub plain_is_shown : (text : List ℕ) → is_plain text ≡ true → shown text ≡ text
unfolding chars
plain_is_shown [] plain = refl
plain_is_shown (c ∷ cs) plain =
    ap (flat_map shown_char) (own_characters c cs (first_of (is_printable c) (is_plain cs) plain) (rest_of (is_printable c) (is_plain cs) plain))
    ∙ all_as_themselves (c ∷ cs) plain

-- so it may be appended as it is
pub plain_appended : {E : Type 0} (result : Result (Unit {0}) E) (old text new : List ℕ) → is_plain text ≡ true → new ≡ (if is_ok result then old ++ text else old) → OnOk result (new ≡ old ++ shown text)
plain_appended (Ok x) old text new plain is = is ∙ ap (λ text. old ++ text) (sym (plain_is_shown text plain))
plain_appended (Err e) old text new plain is = tt
