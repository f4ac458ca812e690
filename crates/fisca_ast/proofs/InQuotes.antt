-- What stands in the quotes of a text is UTF-8, as the text is: quotes are ASCII.
use Rattle.std.proofs.Common.{◌≡◌, ℕ, zero, suc, ◌+◌, ◌-◌, ◌<◌, ◌≤◌, List, [], ◌∷◌, length, take, drop, get_or, Bool, true, false, not, ◌==◌, ◌&&◌, if◌then◌else◌, ◌⊎◌, inl, inr, Option, Some, None, option_map, true≢false, refl, sym, ap, subst, ◌∙◌, arith, length-drop, length-take-le, get_or-drop, drop-drop, take-take, IsUtf8, IsCharBoundary}
use Rattle.std.proofs.lemmas.Bool.Decides.{nat_tests}
use Rattle.std.proofs.lemmas.List.{drop-take}
use Rattle.std.proofs.lemmas.Option.{same_Some}
use Rattle.std.proofs.lemmas.Str.{IsUtf8-drop, IsUtf8-between, IsCharBoundary-before_ascii, IsCharBoundary-after_ascii}
use Rattle.std.specs.List.{prefix_len}
use Rattle.std.specs.Prelude.{⊤}
use Rattle.fisca_ast.specs.ContentPieces.{quoted as quoted_pieces, front}
use Rattle.fisca_ast.specs.Strings.{begins_quote, in_comment, is_quote}
use Rattle.fisca_ast.specs.Steps.Contents.{IsEnd, within, between_quotes}
use Rattle.fisca_ast.specs.Steps.Strings.{begins, longer, takes_next, quoted, quotes_up_to, tripled, string_len}

-- Ends of texts

later : (n : ℕ) (bs : List ℕ) → IsEnd bs → IsEnd (drop n bs)
later n bs end = record { text = end.text; from = end.from + n; utf8 = end.utf8; is = ap (drop n) end.is ∙ drop-drop n end.from end.text }

-- an end that begins with an ASCII byte is a text
end_utf8 : (b : ℕ) (bs : List ℕ) → IsEnd (b ∷ bs) → b < 128 → IsUtf8 (b ∷ bs)
end_utf8 b bs end ascii =
    let text = end.text in
    let from = end.from in
    let here : get_or text (from + 0) 0 ≡ b = sym (get_or-drop from text 0 0) ∙ ap (λ l. get_or l 0 0) (sym end.is) in
    let place : from + 0 ≡ from = omega arith in
    let byte : get_or text from 0 ≡ b = ap (λ n. get_or text n 0) (sym place) ∙ here in
    let long : length (drop from text) ≡ suc (length bs) = ap length (sym end.is) in
    let some : from < length text = omega (arith, long, length-drop from text) in
    subst IsUtf8 (sym end.is) (IsUtf8-drop text from end.utf8 (IsCharBoundary-before_ascii text from some (omega (arith, byte))))

-- The last quotes

is_it : (taken : Bool) (b q : ℕ) → (not taken && (b == q)) ≡ true → b ≡ q
is_it true b q e = cc
is_it false b q e = grind (arith, nat_tests)

abbrev EndsWith : ℕ → List ℕ → Option ℕ → Type 0
EndsWith q bs None = ⊤
EndsWith q bs (Some m) = (j : ℕ) × (m ≡ suc j) × (j < length bs) × (get_or bs j 0 ≡ q)

one_quote : (q : ℕ) (taken : Bool) (bs : List ℕ) → EndsWith q bs (quoted q taken bs)
one_quote q taken [] = tt
one_quote q taken (b ∷ bs) = by (not taken && (b == 10)) (not taken && (b == q)) (is_it taken b q) (quoted q (takes_next taken b bs) bs) (one_quote q (takes_next taken b bs) bs) where
  by : (c d : Bool) → (d ≡ true → b ≡ q) → (o : Option ℕ) → EndsWith q bs o → EndsWith q (b ∷ bs) (if c then None else (if d then Some 1 else longer o))
  by true d same o h = tt
  by false true same o h = (0, refl, omega arith, same refl)
  by false false same None h = tt
  by false false same (Some m) h = (suc h.0, omega (arith, h.1), omega (arith, h.2), h.3)

counted : (q quotes : ℕ) (taken : Bool) (b : ℕ) → (quotes_up_to q quotes taken b ≡ 0) ⊎ ((quotes_up_to q quotes taken b ≡ quotes + 1) × (b ≡ q))
counted q quotes taken b = by (not taken && (b == q)) (is_it taken b q) where
  by : (c : Bool) → (c ≡ true → b ≡ q) → ((if c then quotes + 1 else 0) ≡ 0) ⊎ (((if c then quotes + 1 else 0) ≡ quotes + 1) × (b ≡ q))
  by true same = inr (refl, same refl)
  by false same = inl refl

abbrev EndsInThree : ℕ → ℕ → List ℕ → Option ℕ → Type 0
EndsInThree q quotes bs None = ⊤
EndsInThree q quotes bs (Some m) = (3 ≤ quotes + m) × (m ≤ length bs) × ((i : ℕ) → i < m → m ≤ i + 3 → get_or bs i 0 ≡ q)

three_quotes : (q quotes : ℕ) (taken : Bool) (bs : List ℕ) → EndsInThree q quotes bs (tripled q quotes taken bs)
three_quotes q quotes taken [] = tt
three_quotes q quotes taken (b ∷ bs) =
    let more = quotes_up_to q quotes taken b in
    by more (counted q quotes taken b) (more == 3) (λ e. grind (arith, nat_tests)) (tripled q more (takes_next taken b bs) bs) (three_quotes q more (takes_next taken b bs) bs) where
      last : (k : ℕ) → (k ≡ 0) ⊎ ((k ≡ quotes + 1) × (b ≡ q)) → 0 < k → (k ≤ quotes + 1) × (b ≡ q)
      last k (inl none) some = absurd (omega (arith, none, some))
      last k (inr one) some = (omega (arith, one.0), one.1)

      most : (k : ℕ) → (k ≡ 0) ⊎ ((k ≡ quotes + 1) × (b ≡ q)) → k ≤ quotes + 1
      most k (inl none) = omega (arith, none)
      most k (inr one) = omega (arith, one.0)

      first : (i : ℕ) → i < 1 → b ≡ q → get_or (b ∷ bs) i 0 ≡ q
      first zero less same = same
      first (suc i) less same = absurd (omega arith)

      each : (k m : ℕ) → (k ≡ 0) ⊎ ((k ≡ quotes + 1) × (b ≡ q)) → EndsInThree q k bs (Some m) → (i : ℕ) → i < 1 + m → 1 + m ≤ i + 3 → get_or (b ∷ bs) i 0 ≡ q
      each k m count h zero less late = (last k count (omega (arith, h.0, late))).1
      each k m count h (suc i) less late = h.2 i (omega (arith, less)) (omega (arith, late))

      by : (k : ℕ) → (k ≡ 0) ⊎ ((k ≡ quotes + 1) × (b ≡ q)) → (c : Bool) → (c ≡ true → k ≡ 3) → (o : Option ℕ) → EndsInThree q k bs o → EndsInThree q quotes (b ∷ bs) (if c then Some 1 else longer o)
      by k count true full o h =
          let at = last k count (omega (arith, full refl)) in
          (omega (arith, full refl, at.0), omega arith, λ i less late. first i less at.1)
      by k count false full None h = tt
      by k count false full (Some m) h = (omega (arith, h.0, most k count), omega (arith, h.1), each k m count h)

-- Texts between quotes

-- a text without so many bytes at both ends is cut out of it between characters
cut_utf8 : (k n : ℕ) (t : List ℕ) → IsUtf8 t → k + k ≤ n → n ≤ length t → IsCharBoundary t k → get_or t (n - k) 0 < 128 → 0 < k → IsUtf8 (within k (take n t))
cut_utf8 k n t utf8 fit inside from ascii some =
    let all : length (take n t) ≡ n = length-take-le n t inside in
    let split : n - k ≡ k + (n - k - k) = omega (arith, fit) in
    let up_to : IsCharBoundary t (n - k) = IsCharBoundary-before_ascii t (n - k) (omega (arith, inside, some, fit)) ascii in
    let is : within k (take n t) ≡ take (n - k - k) (drop k t) =
    ap (λ m. drop k (take (m - k) (take n t))) all
    ∙ ap (drop k) (take-take (n - k) n t (omega arith))
    ∙ ap (λ m. drop k (take m t)) split ∙ drop-take k (n - k - k) t in
    subst IsUtf8 (sym is) (IsUtf8-between t k (n - k) utf8 (omega (arith, fit)) from up_to)

prefix_begins : (q n : ℕ) (bs : List ℕ) → begins q (take n bs) ≡ true → begins q bs ≡ true
prefix_begins q zero bs e = cc
prefix_begins q (suc n) [] e = e
prefix_begins q (suc n) (b ∷ bs) e = e

both : (a b : Bool) → (a && b) ≡ true → (a ≡ true) × (b ≡ true)
both true true e = (refl, refl)
both true false e = cc
both false b e = cc

joined : (a b : Bool) → a ≡ true → b ≡ true → (a && b) ≡ true
joined true true e f = refl
joined true false e f = cc
joined false b e f = cc

prefix_begins_twice : (q n : ℕ) (bs : List ℕ) → (begins q (take n bs) && begins q (drop 1 (take n bs))) ≡ true → (begins q bs && begins q (drop 1 bs)) ≡ true
prefix_begins_twice q zero bs e = cc
prefix_begins_twice q (suc n) [] e = e
prefix_begins_twice q (suc n) (b ∷ bs) e =
    let two = both (b == q) (begins q (take n bs)) e in
    joined (b == q) (begins q bs) two.0 (prefix_begins q n bs two.1)

second : (q : ℕ) (bs : List ℕ) → (begins q bs && begins q (drop 1 bs)) ≡ true → get_or bs 1 0 ≡ q
second q [] e = cc
second q (b ∷ []) e = absurd (no (b == q) e) where
  no : (a : Bool) → (a && false) ≡ true → ⊥
  no true e = cc
  no false e = cc
second q (b ∷ c ∷ bs) e = let same : (c == q) ≡ true = (both (b == q) (c == q) e).1 in let is : c ≡ q = grind (arith, nat_tests) in is

-- what stands in the quotes of a text in front
in_quotes : (q : ℕ) (bs : List ℕ) (n : ℕ) → q < 128 → IsUtf8 (q ∷ bs) → string_len (q ∷ bs) ≡ Some n → IsUtf8 (between_quotes (take n (q ∷ bs)))
in_quotes q bs n ascii utf8 e = by (begins q bs && begins q (drop 1 bs)) refl e where
  inside_one : (n : ℕ) → 1 + 1 ≤ n → n ≤ length (q ∷ bs) → get_or (q ∷ bs) (n - 1) 0 < 128 → IsUtf8 (within 1 (take n (q ∷ bs)))
  inside_one n fit inside last = cut_utf8 1 n (q ∷ bs) utf8 fit inside (IsCharBoundary-after_ascii (q ∷ bs) 0 utf8 (omega arith) ascii) last (omega arith)

  choose : (n : ℕ) (d : Bool) → IsUtf8 (within 1 (take n (q ∷ bs))) → (d ≡ true → IsUtf8 (within 3 (take n (q ∷ bs)))) → IsUtf8 (if d then within 3 (take n (q ∷ bs)) else within 1 (take n (q ∷ bs)))
  choose n true one three = three refl
  choose n false one three = one

  between : (n : ℕ) → IsUtf8 (within 1 (take (suc n) (q ∷ bs))) → ((begins q bs && begins q (drop 1 bs)) ≡ true → IsUtf8 (within 3 (take (suc n) (q ∷ bs)))) → IsUtf8 (between_quotes (take (suc n) (q ∷ bs)))
  between n one three = choose (suc n) (begins q (take n bs) && begins q (drop 1 (take n bs))) one (λ d. three (prefix_begins_twice q n bs d))

  alone : (begins q bs && begins q (drop 1 bs)) ≡ false → (o : Option ℕ) → EndsWith q bs o → option_map (λ n. 1 + n) o ≡ Some n → IsUtf8 (between_quotes (take n (q ∷ bs)))
  alone c None h e = cc
  alone c (Some m) h e =
      let size : n ≡ suc (suc h.0) = omega (arith, same_Some (1 + m) n e, h.1) in
      let place : suc (suc h.0) - 1 ≡ suc h.0 = omega arith in
      let low : get_or bs h.0 0 < 128 = omega (arith, h.3, ascii) in
      subst (λ n. IsUtf8 (between_quotes (take n (q ∷ bs)))) (sym size)
      (between (suc h.0) (inside_one (suc (suc h.0)) (omega arith) (omega (arith, h.2)) (subst (λ n. get_or (q ∷ bs) n 0 < 128) (sym place) low)) (λ d. absurd (true≢false (sym d ∙ c))))

  tripled_ends : (begins q bs && begins q (drop 1 bs)) ≡ true → (o : Option ℕ) → EndsInThree q 0 (drop 2 bs) o → option_map (λ n. 3 + n) o ≡ Some n → IsUtf8 (between_quotes (take n (q ∷ bs)))
  tripled_ends c None h e = cc
  tripled_ends c (Some m) h e =
      let size : n ≡ suc (2 + m) = omega (arith, same_Some (3 + m) n e) in
      let many : 3 ≤ m = omega (arith, h.0) in
      let left : length (drop 2 bs) ≡ length bs - 2 = length-drop 2 bs in
      let inside : suc (2 + m) ≤ length (q ∷ bs) = omega (arith, h.1, left, many) in
      let low : (i : ℕ) → i < m → m ≤ i + 3 → get_or bs (2 + i) 0 < 128 = λ i less late. omega (arith, get_or-drop 2 bs i 0, h.2 i less late, ascii) in
      let at : (i : ℕ) → i < m → m ≤ i + 3 → get_or (q ∷ bs) (suc (2 + i)) 0 < 128 = low in
      let last : suc (2 + m) - 1 ≡ suc (2 + (m - 1)) = omega (arith, many) in
      let before : suc (2 + m) - 3 ≡ suc (2 + (m - 3)) = omega (arith, many) in
      let next : get_or bs 1 0 < 128 = omega (arith, second q bs c, ascii) in
      let two : get_or (q ∷ bs) 2 0 < 128 = next in
      subst (λ n. IsUtf8 (between_quotes (take n (q ∷ bs)))) (sym size)
      (between (2 + m)
      (inside_one (suc (2 + m)) (omega (arith, many)) inside (subst (λ n. get_or (q ∷ bs) n 0 < 128) (sym last) (at (m - 1) (omega (arith, many)) (omega arith))))
      (λ d. cut_utf8 3 (suc (2 + m)) (q ∷ bs) utf8 (omega (arith, many)) inside (IsCharBoundary-after_ascii (q ∷ bs) 2 utf8 (omega (arith, inside)) two)
      (subst (λ n. get_or (q ∷ bs) n 0 < 128) (sym before) (at (m - 3) (omega (arith, many)) (omega arith))) (omega arith)))

  by : (c : Bool) → (begins q bs && begins q (drop 1 bs)) ≡ c → (if c then option_map (λ n. 3 + n) (tripled q 0 false (drop 2 bs)) else option_map (λ n. 1 + n) (quoted q false bs)) ≡ Some n → IsUtf8 (between_quotes (take n (q ∷ bs)))
  by true is e = tripled_ends is (tripled q 0 false (drop 2 bs)) (three_quotes q 0 false (drop 2 bs)) e
  by false is e = alone is (quoted q false bs) (one_quote q false bs) e

-- A text in quotes ends between two characters of the text in front of which it stands.
pub string_cut : (q : ℕ) (bs : List ℕ) (n : ℕ) → q < 128 → IsUtf8 (q ∷ bs) → string_len (q ∷ bs) ≡ Some n → IsCharBoundary (q ∷ bs) n
string_cut q bs n ascii utf8 e = by (begins q bs && begins q (drop 1 bs)) e where
  behind : (m : ℕ) → n ≡ m + 1 → m < length (q ∷ bs) → get_or (q ∷ bs) m 0 < 128 → IsCharBoundary (q ∷ bs) n
  behind m is inside last = subst (IsCharBoundary (q ∷ bs)) (sym is) (IsCharBoundary-after_ascii (q ∷ bs) m utf8 inside last)

  alone : (o : Option ℕ) → EndsWith q bs o → option_map (λ n. 1 + n) o ≡ Some n → IsCharBoundary (q ∷ bs) n
  alone None h e = cc
  alone (Some m) h e = let low : get_or bs h.0 0 < 128 = omega (arith, h.3, ascii) in behind (suc h.0) (omega (arith, same_Some (1 + m) n e, h.1)) (omega (arith, h.2)) low

  three : (o : Option ℕ) → EndsInThree q 0 (drop 2 bs) o → option_map (λ n. 3 + n) o ≡ Some n → IsCharBoundary (q ∷ bs) n
  three None h e = cc
  three (Some m) h e =
      let left : length (drop 2 bs) ≡ length bs - 2 = length-drop 2 bs in
      let many : 3 ≤ m = omega (arith, h.0) in
      let low : get_or bs (2 + (m - 1)) 0 < 128 = omega (arith, get_or-drop 2 bs (m - 1) 0, h.2 (m - 1) (omega (arith, many)) (omega arith), ascii) in
      behind (suc (2 + (m - 1))) (omega (arith, same_Some (3 + m) n e, many)) (omega (arith, h.1, left, many)) low

  by : (c : Bool) → (if c then option_map (λ n. 3 + n) (tripled q 0 false (drop 2 bs)) else option_map (λ n. 1 + n) (quoted q false bs)) ≡ Some n → IsCharBoundary (q ∷ bs) n
  by true e = three (tripled q 0 false (drop 2 bs)) (three_quotes q 0 false (drop 2 bs)) e
  by false e = alone (quoted q false bs) (one_quote q false bs) e

-- Pieces

pub quote_ascii : (b : ℕ) → is_quote b ≡ true → b < 128
quote_ascii b e = grind (arith, nat_tests)

-- what the quotes in front of the end of a text say
pub said_utf8 : (t : List ℕ) (n : ℕ) → IsEnd t → begins_quote t ≡ true → string_len t ≡ Some n → IsUtf8 (between_quotes (take n t))
said_utf8 [] n end quote e = cc
said_utf8 (b ∷ bs) n end quote e = in_quotes b bs n (quote_ascii b quote) (end_utf8 b bs end (quote_ascii b quote)) e

-- behind a piece of the end of a text stands an end of it
pub front_end : (t : List ℕ) (p : List ℕ × List ℕ) → IsEnd t → front t ≡ Some p → IsEnd p.1
front_end [] p end e = cc
front_end (b ∷ bs) p end e = by (is_quote b) (b == 35) (string_len (b ∷ bs)) e where
  found : (x : List ℕ × List ℕ) → IsEnd x.1 → Some x ≡ Some p → IsEnd p.1
  found x h e = subst (λ y. IsEnd y.1) (same_Some x p e) h

  by : (c d : Bool) (o : Option ℕ) → (if c then quoted_pieces (b ∷ bs) o else (if d then Some ([], drop (prefix_len in_comment bs) bs) else Some ([], bs))) ≡ Some p → IsEnd p.1
  by true d None e = cc
  by true d (Some n) e = found (between_quotes (take n (b ∷ bs)), drop n (b ∷ bs)) (later n (b ∷ bs) end) e
  by false true o e = found ([], drop (prefix_len in_comment bs) bs) (later (prefix_len in_comment bs) bs (later 1 (b ∷ bs) end)) e
  by false false o e = found ([], bs) (later 1 (b ∷ bs) end) e

-- a text is its own end
pub whole_end : (t : List ℕ) → IsUtf8 t → IsEnd t
whole_end t utf8 = record { text = t; from = 0; utf8 = utf8; is = refl }
