-- Places between the characters of a text, by a test.
use Rattle.std.proofs.Common.{◌≡◌, ℕ, ◌<◌, ◌≤◌, ◌↔◌, List, [], length, get_or, Bool, true, false, nat_le, nat_lt, ◌&&◌, ◌||◌, if◌then◌else◌, IsTrue, refl, sym, ap, arith, IsCharBoundary, slice_range}
use Rattle.std.proofs.lemmas.Bool.Decides.{nat_tests}
use Rattle.std.proofs.lemmas.List.{get_or_past}
use Rattle.fisca_lexer.specs.Cuts.{IsCut}
use Rattle.fisca_lexer.specs.declared.token.Token.{Token}
use Rattle.fisca_expr_parser.specs.Steps.Signs.{begins_character, piece, sign_of, sign_by}

both : (a b : Bool) → a ≡ true → b ≡ true → (a && b) ≡ true
both true true e f = refl
both true false e f = cc
both false b e f = cc

parts : (a b : Bool) → (a && b) ≡ true → (a ≡ true) × (b ≡ true)
parts true true e = (refl, refl)
parts true false e = cc
parts false b e = cc

-- a byte that continues no character
leads : (b : ℕ) → (128 ≤ b → 192 ≤ b) → (nat_lt b 128 || nat_le 192 b) ≡ true
leads b h = by (nat_lt b 128) refl where
  by : (c : Bool) → nat_lt b 128 ≡ c → (c || nat_le 192 b) ≡ true
  by true e = refl
  by false e = let high : 128 ≤ b = grind (arith, nat_tests) in let lead : 192 ≤ b = h high in grind (arith, nat_tests)

led : (b : ℕ) → (nat_lt b 128 || nat_le 192 b) ≡ true → 128 ≤ b → 192 ≤ b
led b e high = by (nat_lt b 128) refl e where
  by : (c : Bool) → nat_lt b 128 ≡ c → (c || nat_le 192 b) ≡ true → 192 ≤ b
  by true low e = absurd (let less : b < 128 = grind (arith, nat_tests) in omega (arith, less, high))
  by false low e = grind (arith, nat_tests)

pub begins_at : (text : List ℕ) (at : ℕ) → IsCharBoundary text at → begins_character text at ≡ true
begins_at text at cut =
    let within : at ≤ length text = cut.0 in
    both (nat_le at (length text)) (nat_lt (get_or text at 0) 128 || nat_le 192 (get_or text at 0)) (grind (arith, nat_tests)) (leads (get_or text at 0) lead) where
      lead : 128 ≤ get_or text at 0 → 192 ≤ get_or text at 0
      lead high = by (nat_lt at (length text)) refl where
        by : (c : Bool) → nat_lt at (length text) ≡ c → 192 ≤ get_or text at 0
        by true e = let less : at < length text = grind (arith, nat_tests) in cut.1 less high
        by false e = let past : length text ≤ at = grind (arith, nat_tests) in absurd (omega (arith, get_or_past text at 0 past, high))

at_boundary : (text : List ℕ) (at : ℕ) → begins_character text at ≡ true → IsCharBoundary text at
at_boundary text at e =
    let two = parts (nat_le at (length text)) (nat_lt (get_or text at 0) 128 || nat_le 192 (get_or text at 0)) e in
    let inside : nat_le at (length text) ≡ true = two.0 in
    (grind (arith, nat_tests), λ less high. led (get_or text at 0) two.1 high)

pub begins_is : (text : List ℕ) (at : ℕ) (b : Bool) → (IsTrue b ↔ IsCharBoundary text at) → b ≡ begins_character text at
begins_is text at true h = sym (begins_at text at (h.0 refl))
begins_is text at false h = by (begins_character text at) refl where
  by : (c : Bool) → begins_character text at ≡ c → false ≡ c
  by true e = h.1 (at_boundary text at e)
  by false e = refl

-- what a token is of that stands between characters is read whole
pub read_whole : (text : List ℕ) (t : Token) → IsCut text t → sign_of text t ≡ sign_by t.class (slice_range text t.start t.end)
read_whole text t cut =
    let ordered : t.start ≤ t.end = cut.ordered in
    let at : (nat_le t.start t.end && (begins_character text t.start && begins_character text t.end)) ≡ true =
    both (nat_le t.start t.end) (begins_character text t.start && begins_character text t.end) (grind (arith, nat_tests))
    (both (begins_character text t.start) (begins_character text t.end) (begins_at text t.start cut.begins) (begins_at text t.end cut.ends)) in
    ap (λ c. sign_by t.class (if c then slice_range text t.start t.end else [])) at
