-- Lines of tokens, from the last one on.
use Rattle.std.proofs.Common.{◌≡◌, ℕ, suc, ◌+◌, ◌-◌, ◌<◌, List, [], ◌∷◌, ◌++◌, length, take, drop, reverse, refl, sym, ap, ◌∙◌, append_assoc, arith, length-drop, take-append-drop, append-nil, drop-drop}
use Rattle.std.proofs.lemmas.List.{reverse-append, reverse-reverse, length-reverse}
use Rattle.std.proofs.Math.Seq.{take-length}
use Rattle.std.specs.Prelude.{Bool, false, Option, Some, None, is_none, cond}
use Rattle.fisca_lexer.specs.declared.token.Token.{Token}
use Rattle.fisca_parser.specs.Lines.{Line, line_by, indent_of}
use Rattle.fisca_parser.specs.Steps.Lines.{lines, within_len}

abbrev weight : Option ℕ → ℕ
weight o = cond (is_none o) 1 0

abbrev truth : Bool → ℕ
truth b = cond b 1 0

-- one token more that begins no line, or one that does
tail_by : (o : Option ℕ) (n m : ℕ) → cond (is_none o) (1 + n) 0 ≡ suc m → n ≡ m
tail_by None n m e = omega (arith, e)
tail_by (Some i) n m e = absurd (omega (arith, e))

head_by : (o : Option ℕ) (n m : ℕ) → cond (is_none o) (1 + n) 0 ≡ suc m → o ≡ None
head_by None n m e = refl
head_by (Some i) n m e = absurd (omega (arith, e))

all_by : (o : Option ℕ) (n m : ℕ) → o ≡ None → n ≡ m → cond (is_none o) (1 + n) 0 ≡ suc m
all_by None n m e h = omega (arith, h)
all_by (Some i) n m e h = absurd (omega (arith, ap weight e))

stop_by : (o : Option ℕ) (i n : ℕ) → o ≡ Some i → cond (is_none o) (1 + n) 0 ≡ 0
stop_by None i n e = absurd (omega (arith, ap weight e))
stop_by (Some j) i n e = refl

goes_by : (o : Option ℕ) (n : ℕ) → o ≡ None → cond (is_none o) (1 + n) 0 ≡ 0 → n < n
goes_by None n e h = absurd (omega (arith, h))
goes_by (Some i) n e h = absurd (omega (arith, ap weight e))

-- tokens that begin no line
abbrev AllWithin : List Token → Type 0
AllWithin ts = within_len ts ≡ length ts

-- they make no line
no_line_by : (o : Option ℕ) (us : List Token) (others : List Line) → o ≡ None → line_by o us others ≡ others
no_line_by None us others e = refl
no_line_by (Some i) us others e = absurd (omega (arith, ap weight e))

no_line : (ts : List Token) → AllWithin ts → lines ts ≡ []
no_line [] all = refl
no_line (t ∷ ts) all = no_line_by t.indent (t ∷ take (within_len ts) ts) (lines ts) (head_by t.indent _ _ all) ∙ no_line ts (tail_by t.indent _ _ all)

all_behind : (ts : List Token) (t : Token) → AllWithin ts → t.indent ≡ None → AllWithin (ts ++ t ∷ [])
all_behind [] t all e = all_by t.indent 0 0 e refl
all_behind (u ∷ us) t all e = all_by u.indent (within_len (us ++ t ∷ [])) (length (us ++ t ∷ [])) (head_by u.indent _ _ all) (all_behind us t (tail_by u.indent _ _ all) e)

all_reversed : (ts : List Token) → AllWithin ts → AllWithin (reverse ts)
all_reversed [] all = refl
all_reversed (t ∷ ts) all = rw (reverse-append (t ∷ []) ts) (all_behind (reverse ts) t (all_reversed ts (tail_by t.indent _ _ all)) (head_by t.indent _ _ all))

-- as many begin no line as stand before a token: so they all do not, and it does
all_before : (ts : List Token) (t : Token) (us : List Token) → within_len (ts ++ t ∷ us) ≡ length ts → AllWithin ts
all_before [] t us e = refl
all_before (x ∷ xs) t us e = all_by x.indent (within_len xs) (length xs) (head_by x.indent _ _ e) (all_before xs t us (tail_by x.indent _ _ e))

begins : (ts : List Token) (t : Token) (us : List Token) → within_len (ts ++ t ∷ us) ≡ length ts → t.indent ≡ None → within_len us < within_len us
begins [] t us e none = goes_by t.indent (within_len us) none e
begins (x ∷ xs) t us e none = begins xs t us (tail_by x.indent _ _ e) none

-- a token that begins a line ends the one before
stops : (xs : List Token) (t : Token) (ts : List Token) (i : ℕ) → t.indent ≡ Some i → within_len (xs ++ t ∷ ts) ≡ within_len xs
stops [] t ts i e = stop_by t.indent i (within_len ts) e
stops (x ∷ xs) t ts i e = ap (λ k. cond (is_none x.indent) (1 + k) 0) (stops xs t ts i e)

taken_by : (o : Option ℕ) (x : Token) (xs ys : List Token) → take (within_len xs) (xs ++ ys) ≡ take (within_len xs) xs → take (cond (is_none o) (1 + within_len xs) 0) (x ∷ (xs ++ ys)) ≡ take (cond (is_none o) (1 + within_len xs) 0) (x ∷ xs)
taken_by None x xs ys h = let e : 1 + within_len xs ≡ suc (within_len xs) = omega arith in rw e (ap (λ us. x ∷ us) h)
taken_by (Some i) x xs ys h = refl

taken : (xs ys : List Token) → take (within_len xs) (xs ++ ys) ≡ take (within_len xs) xs
taken [] [] = refl
taken [] (y ∷ ys) = refl
taken (x ∷ xs) ys = taken_by x.indent x xs ys (taken xs ys)

line_in_front : (o : Option ℕ) (us : List Token) (ls ms : List Line) → line_by o us (ls ++ ms) ≡ line_by o us ls ++ ms
line_in_front None us ls ms = refl
line_in_front (Some i) us ls ms = refl

-- lines from a token on that begins one stand behind those of the tokens before it
apart : (xs : List Token) (t : Token) (ts : List Token) (i : ℕ) → t.indent ≡ Some i → lines (xs ++ t ∷ ts) ≡ lines xs ++ lines (t ∷ ts)
apart [] t ts i e = refl
apart (x ∷ xs) t ts i e =
    ap (λ k. line_by x.indent (x ∷ take k (xs ++ t ∷ ts)) (lines (xs ++ t ∷ ts))) (stops xs t ts i e)
    ∙ ap (λ us. line_by x.indent (x ∷ us) (lines (xs ++ t ∷ ts))) (taken xs (t ∷ ts))
    ∙ ap (line_by x.indent (x ∷ take (within_len xs) xs)) (apart xs t ts i e)
    ∙ line_in_front x.indent (x ∷ take (within_len xs) xs) (lines xs) (lines (t ∷ ts))

-- where only the first token may begin a line, there is one at most
begun : (t : Token) (ts : List Token) → AllWithin ts → lines (t ∷ ts) ≡ line_by t.indent (t ∷ ts) []
begun t ts all =
    ap (λ k. line_by t.indent (t ∷ take k ts) (lines ts)) all
    ∙ ap (λ us. line_by t.indent (t ∷ us) (lines ts)) (take-length ts)
    ∙ ap (line_by t.indent (t ∷ ts)) (no_line ts all)

turned : (xs : List Token) (t : Token) (us : List Token) → reverse (xs ++ t ∷ us) ≡ reverse us ++ t ∷ reverse xs
turned xs t us = reverse-append xs (t ∷ us) ∙ ap (λ rs. rs ++ reverse xs) (reverse-append (t ∷ []) us) ∙ append_assoc (reverse us) (t ∷ []) (reverse xs)

apart_by : (o : Option ℕ) (xs : List Token) (t : Token) (us : List Token) → t.indent ≡ o → within_len (reverse us ++ t ∷ reverse xs) ≡ length (reverse us) → lines (xs ++ t ∷ us) ≡ lines xs ++ lines (t ∷ us)
apart_by None xs t us e h = absurd (omega (arith, begins (reverse us) t (reverse xs) h e))
apart_by (Some i) xs t us e h = apart xs t us i e

-- as many begin no line at the end as stand behind this token
at_end : (xs : List Token) (t : Token) (us ts : List Token) (n : ℕ) → xs ++ t ∷ us ≡ ts → n ≡ length us → n ≡ within_len (reverse ts) → within_len (reverse us ++ t ∷ reverse xs) ≡ length (reverse us)
at_end xs t us ts n whole size is = ap within_len (sym (turned xs t us)) ∙ ap (λ vs. within_len (reverse vs)) whole ∙ sym is ∙ size ∙ sym (length-reverse us)

cut_by : (ts front line : List Token) (n : ℕ) → front ++ line ≡ ts → length line ≡ suc n → n ≡ within_len (reverse ts) → lines ts ≡ lines front ++ lines line
cut_by ts front [] n whole size is = absurd (omega (arith, size))
cut_by ts front (t ∷ us) n whole size is = ap lines (sym whole) ∙ apart_by t.indent front t us refl (at_end front t us ts n whole (omega (arith, size)) is)

alone_by : (ts front line : List Token) (n : ℕ) → front ++ line ≡ ts → length line ≡ suc n → n ≡ within_len (reverse ts) → lines line ≡ line_by (indent_of line) line []
alone_by ts front [] n whole size is = absurd (omega (arith, size))
alone_by ts front (t ∷ us) n whole size is =
    let all : AllWithin (reverse (reverse us)) = all_reversed (reverse us) (all_before (reverse us) t (reverse front) (at_end front t us ts n whole (omega (arith, size)) is)) in
    begun t us (rw (← reverse-reverse us) all)

-- the last line, and the lines of what stands before it
pub last_cut : (ts : List Token) (n at : ℕ) → n ≡ within_len (reverse ts) → n < length ts → at ≡ length ts - n - 1 → lines ts ≡ lines (take at ts) ++ lines (drop at ts)
last_cut ts n at is less e = cut_by ts (take at ts) (drop at ts) n (take-append-drop at ts) (omega (arith, less, e, length-drop at ts)) is

pub last_alone : (ts : List Token) (n at : ℕ) → n ≡ within_len (reverse ts) → n < length ts → at ≡ length ts - n - 1 → lines (drop at ts) ≡ line_by (indent_of (drop at ts)) (drop at ts) []
last_alone ts n at is less e = alone_by ts (take at ts) (drop at ts) n (take-append-drop at ts) (omega (arith, less, e, length-drop at ts)) is

-- no token begins a line
pub none_cut : (ts : List Token) (n : ℕ) → n ≡ within_len (reverse ts) → n ≡ length ts → lines ts ≡ []
none_cut ts n is size =
    let all : AllWithin (reverse (reverse ts)) = all_reversed (reverse ts) (sym is ∙ size ∙ sym (length-reverse ts)) in
    no_line ts (rw (← reverse-reverse ts) all)

-- behind the tokens that begin no line stands one that does
abbrev Begins : List Token → Type 0
Begins ts = is_none (indent_of ts) ≡ false

starts_by : (o : Option ℕ) (t : Token) (ts : List Token) → t.indent ≡ o → cond (is_none o) (1 + within_len ts) 0 < suc (length ts) → (within_len ts < length ts → Begins (drop (within_len ts) ts)) → Begins (drop (cond (is_none o) (1 + within_len ts) 0) (t ∷ ts))
starts_by None t ts e less ih = let s : 1 + within_len ts ≡ suc (within_len ts) = omega arith in rw s (ih (omega (arith, less)))
starts_by (Some i) t ts e less ih = ap is_none e

starts : (ts : List Token) → within_len ts < length ts → Begins (drop (within_len ts) ts)
starts [] less = absurd (omega (arith, less))
starts (t ∷ ts) less = starts_by t.indent t ts refl less (starts ts)

parted_by : (o : Option ℕ) (xs : List Token) (t : Token) (us : List Token) → t.indent ≡ o → is_none o ≡ false → lines (xs ++ t ∷ us) ≡ lines xs ++ lines (t ∷ us)
parted_by None xs t us e h = absurd (omega (arith, ap truth h))
parted_by (Some i) xs t us e h = apart xs t us i e

parted : (xs ys : List Token) → Begins ys → lines (xs ++ ys) ≡ lines xs ++ lines ys
parted xs [] h = absurd (omega (arith, ap truth h))
parted xs (t ∷ us) h = parted_by t.indent xs t us refl h

behind : (from at : ℕ) (ts : List Token) → Begins (drop at (drop from ts)) → Begins (drop (from + at) ts)
behind from at ts h = rw (← drop-drop at from ts) h

-- the first line behind a place, and the lines of what stands before it
pub first_cut : (ts : List Token) (from at : ℕ) → at ≡ within_len (drop from ts) → at < length (drop from ts) → lines ts ≡ lines (take (from + at) ts) ++ lines (drop (from + at) ts)
first_cut ts from at is less =
    let h : Begins (drop at (drop from ts)) = rw is (starts (drop from ts) (omega (arith, is, less))) in
    ap lines (sym (take-append-drop (from + at) ts)) ∙ parted (take (from + at) ts) (drop (from + at) ts) (behind from at ts h)

-- one line more
alone : (o : Option ℕ) (us : List Token) → reverse (line_by o us []) ≡ line_by o us []
alone None us = refl
alone (Some i) us = refl

-- some lines more
pub more : (all found new left before piece : List Line) → all ≡ found ++ reverse left → left ≡ before ++ piece → new ≡ found ++ reverse piece → all ≡ new ++ reverse before
more all found new left before piece e h p =
    e ∙ ap (λ ls. found ++ reverse ls) h ∙ ap (λ ls. found ++ ls) (reverse-append before piece)
    ∙ sym (append_assoc found (reverse piece) (reverse before)) ∙ ap (λ ls. ls ++ reverse before) (sym p)

pub one_more : (all found new left before piece : List Line) (line : List Token) → all ≡ found ++ reverse left → left ≡ before ++ piece → piece ≡ line_by (indent_of line) line [] → new ≡ found ++ line_by (indent_of line) line [] → all ≡ new ++ reverse before
one_more all found new left before piece line e h is p =
    more all found new left before piece e h (p ∙ ap (λ ls. found ++ ls) (sym (alone (indent_of line) line)) ∙ ap (λ ls. found ++ reverse ls) (sym is))

-- and no line more
pub at_the_end : (all found left : List Line) → all ≡ found ++ reverse left → left ≡ [] → found ≡ all
at_the_end all found left e h = sym (e ∙ ap (λ ls. found ++ reverse ls) h ∙ append-nil found)

pub turned_back : (all found left : List Line) → reverse all ≡ found ++ reverse left → left ≡ [] → reverse found ≡ all
turned_back all found left e h = ap reverse (at_the_end (reverse all) found left e h) ∙ reverse-reverse all
