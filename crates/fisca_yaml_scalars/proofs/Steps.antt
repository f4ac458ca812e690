-- Steps along the bytes of a line.
use Rattle.std.proofs.Common.{◌≡◌, ℕ, ◌+◌, ◌<◌, Bool, true, false, ltb, List, [], ◌∷◌, ◌++◌, length, get_or, take, drop, Some, None, refl, sym, ap, ◌∙◌, arith, append_assoc}
use Rattle.std.specs.Prelude.{◌==◌, ◌&&◌, is_some}
use Rattle.std.proofs.lemmas.List.{at_drop_more, take_more}
use Rattle.std.proofs.lemmas.Bool.Decides.{nat_tests}
use Rattle.fisca_yaml_scalars.specs.Steps.Rows.{is_blank, ends_mark, indented, following}
use Rattle.fisca_yaml_scalars.specs.Scalars.{Read, prepend, before_comment, key_split, word, past_word}
use Rattle.fisca_yaml_scalars.specs.Steps.Scalars.{past_blanks, in_front, trim_end, stops}

pub blank_ascii : (b : ℕ) → is_blank b ≡ true → b < 128
blank_ascii b e = grind (arith, nat_tests)

pub prepend_twice : (a b : List ℕ) (r : Read) → prepend a (prepend b r) ≡ prepend (a ++ b) r
prepend_twice a b None = refl
prepend_twice a b (Some p) = ap (λ t. Some (t, p.1)) (sym (append_assoc a b p.0))

-- leading spaces, and the blanks behind a dash or a colon
spaces_going : (number column : ℕ) (b : ℕ) (bs : List ℕ) → b ≡ 32 → indented number column (b ∷ bs) ≡ indented number (column + 1) bs
spaces_going number column b bs e = rw e refl

pub spaces_more : (number : ℕ) (bs : List ℕ) (i : ℕ) → i < length bs → get_or bs i 0 ≡ 32 → indented number i (drop i bs) ≡ indented number (i + 1) (drop (i + 1) bs)
spaces_more number bs i h e = at_drop_more (indented number i) bs i 0 h ∙ spaces_going number i (get_or bs i 0) (drop (i + 1) bs) e

following_going : (number column : ℕ) (b : ℕ) (bs : List ℕ) → is_blank b ≡ true → following number column (b ∷ bs) ≡ following number (column + 1) bs
following_going number column b bs e = rw e refl

pub following_none : (number column : ℕ) (bs : List ℕ) → following number column bs ≡ following number (column + 0) bs
following_none number column bs = let e : column ≡ column + 0 = omega arith in ap (λ k. following number k bs) e

pub following_more : (number column : ℕ) (bs : List ℕ) (i : ℕ) → i < length bs → is_blank (get_or bs i 0) ≡ true → following number (column + i) (drop i bs) ≡ following number (column + (i + 1)) (drop (i + 1) bs)
following_more number column bs i h e =
    let k : (column + i) + 1 ≡ column + (i + 1) = omega arith in
    at_drop_more (following number (column + i)) bs i 0 h ∙ following_going number (column + i) (get_or bs i 0) (drop (i + 1) bs) e
    ∙ ap (λ k. following number k (drop (i + 1) bs)) k

blank_going : (after : Bool) (b : ℕ) (bs : List ℕ) → is_blank b ≡ true → past_blanks after (b ∷ bs) ≡ past_blanks true bs
blank_going after b bs e = rw e refl

pub blanks_more : (bs : List ℕ) (i : ℕ) → i < length bs → is_blank (get_or bs i 0) ≡ true → past_blanks (ltb 0 i) (drop i bs) ≡ past_blanks (ltb 0 (i + 1)) (drop (i + 1) bs)
blanks_more bs i h e =
    let later : true ≡ ltb 0 (i + 1) = grind (arith, nat_tests) in
    at_drop_more (past_blanks (ltb 0 i)) bs i 0 h ∙ blank_going (ltb 0 i) (get_or bs i 0) (drop (i + 1) bs) e ∙ ap (λ a. past_blanks a (drop (i + 1) bs)) later

-- blanks at the end
trim_blank : (xs : List ℕ) (b : ℕ) → is_blank b ≡ true → trim_end (xs ++ b ∷ []) ≡ trim_end xs
trim_blank [] b e = rw e refl
trim_blank (x ∷ xs) b e = ap (in_front x) (trim_blank xs b e)

in_front_filled : (x : ℕ) (xs : List ℕ) (b : ℕ) → in_front x (xs ++ b ∷ []) ≡ x ∷ (xs ++ b ∷ [])
in_front_filled x [] b = refl
in_front_filled x (y ∷ xs) b = refl

trim_kept : (xs : List ℕ) (b : ℕ) → is_blank b ≡ false → trim_end (xs ++ b ∷ []) ≡ xs ++ b ∷ []
trim_kept [] b e = rw e refl
trim_kept (x ∷ xs) b e = ap (in_front x) (trim_kept xs b e) ∙ in_front_filled x xs b

pub trim_less : (bs : List ℕ) (n : ℕ) → n < length bs → is_blank (get_or bs n 0) ≡ true → trim_end (take (n + 1) bs) ≡ trim_end (take n bs)
trim_less bs n h e = ap trim_end (take_more bs n 0 h) ∙ trim_blank (take n bs) (get_or bs n 0) e

pub trim_done : (bs : List ℕ) (n : ℕ) → n < length bs → is_blank (get_or bs n 0) ≡ false → trim_end (take (n + 1) bs) ≡ take (n + 1) bs
trim_done bs n h e = ap trim_end (take_more bs n 0 h) ∙ trim_kept (take n bs) (get_or bs n 0) e ∙ sym (take_more bs n 0 h)

-- a line up to a comment
comment_going : (after : Bool) (b : ℕ) (bs : List ℕ) → ((b == 35) && after) ≡ false → before_comment after (b ∷ bs) ≡ b ∷ before_comment (is_blank b) bs
comment_going after b bs e = rw e refl

comment_stopped : (after : Bool) (b : ℕ) (bs : List ℕ) → ((b == 35) && after) ≡ true → before_comment after (b ∷ bs) ≡ []
comment_stopped after b bs e = rw e refl

pub comment_more : (bs : List ℕ) (i : ℕ) (after : Bool) → i < length bs → ((get_or bs i 0 == 35) && after) ≡ false
    → take i bs ++ before_comment after (drop i bs) ≡ take (i + 1) bs ++ before_comment (is_blank (get_or bs i 0)) (drop (i + 1) bs)
comment_more bs i after h e =
    let b = get_or bs i 0 in
    at_drop_more (λ t. take i bs ++ before_comment after t) bs i 0 h ∙ ap (λ w. take i bs ++ w) (comment_going after b (drop (i + 1) bs) e)
    ∙ sym (append_assoc (take i bs) (b ∷ []) (before_comment (is_blank b) (drop (i + 1) bs))) ∙ ap (λ t. t ++ before_comment (is_blank b) (drop (i + 1) bs)) (sym (take_more bs i 0 h))

pub comment_here : (bs : List ℕ) (i : ℕ) (after : Bool) → i < length bs → ((get_or bs i 0 == 35) && after) ≡ true → before_comment after (drop i bs) ≡ []
comment_here bs i after h e = at_drop_more (before_comment after) bs i 0 h ∙ comment_stopped after (get_or bs i 0) (drop (i + 1) bs) e

-- the colon of a key
key_going : (after : Bool) (b : ℕ) (bs : List ℕ) → ((b == 35) && after) ≡ false → ((b == 58) && ends_mark bs) ≡ false → key_split after (b ∷ bs) ≡ prepend (b ∷ []) (key_split (is_blank b) bs)
key_going after b bs e f = rw (e, f) refl

key_comment : (after : Bool) (b : ℕ) (bs : List ℕ) → ((b == 35) && after) ≡ true → key_split after (b ∷ bs) ≡ None
key_comment after b bs e = rw e refl

key_mark : (after : Bool) (b : ℕ) (bs : List ℕ) → ((b == 35) && after) ≡ false → ((b == 58) && ends_mark bs) ≡ true → key_split after (b ∷ bs) ≡ Some ([], bs)
key_mark after b bs e f = rw (e, f) refl

pub key_more : (bs : List ℕ) (i : ℕ) (after : Bool) → i < length bs → ((get_or bs i 0 == 35) && after) ≡ false → ((get_or bs i 0 == 58) && ends_mark (drop (i + 1) bs)) ≡ false
    → prepend (take i bs) (key_split after (drop i bs)) ≡ prepend (take (i + 1) bs) (key_split (is_blank (get_or bs i 0)) (drop (i + 1) bs))
key_more bs i after h e f =
    let b = get_or bs i 0 in
    let next = key_split (is_blank b) (drop (i + 1) bs) in
    at_drop_more (λ t. prepend (take i bs) (key_split after t)) bs i 0 h ∙ ap (prepend (take i bs)) (key_going after b (drop (i + 1) bs) e f)
    ∙ prepend_twice (take i bs) (b ∷ []) next ∙ ap (λ t. prepend t next) (sym (take_more bs i 0 h))

pub key_ends : (bs : List ℕ) (i : ℕ) (after : Bool) → i < length bs → ((get_or bs i 0 == 35) && after) ≡ true → key_split after (drop i bs) ≡ None
key_ends bs i after h e = at_drop_more (key_split after) bs i 0 h ∙ key_comment after (get_or bs i 0) (drop (i + 1) bs) e

pub key_here : (bs : List ℕ) (i : ℕ) (after : Bool) → i < length bs → ((get_or bs i 0 == 35) && after) ≡ false → ((get_or bs i 0 == 58) && ends_mark (drop (i + 1) bs)) ≡ true → key_split after (drop i bs) ≡ Some ([], drop (i + 1) bs)
key_here bs i after h e f = at_drop_more (key_split after) bs i 0 h ∙ key_mark after (get_or bs i 0) (drop (i + 1) bs) e f

pub key_stops : (bs : List ℕ) (i : ℕ) (after : Bool) → i < length bs → ((get_or bs i 0 == 35) && after) ≡ false → ((get_or bs i 0 == 58) && ends_mark (drop (i + 1) bs)) ≡ true
    → is_some (prepend (take i bs) (key_split after (drop i bs))) ≡ true
key_stops bs i after h e f = ap (λ r. is_some (prepend (take i bs) r)) (key_here bs i after h e f)

-- a plain scalar in brackets
word_going : (after : Bool) (b : ℕ) (bs : List ℕ) → stops after b bs ≡ false → word after (b ∷ bs) ≡ b ∷ word (is_blank b) bs
word_going after b bs e = rw e refl

past_going : (after : Bool) (b : ℕ) (bs : List ℕ) → stops after b bs ≡ false → past_word after (b ∷ bs) ≡ past_word (is_blank b) bs
past_going after b bs e = rw e refl

word_stopped : (after : Bool) (b : ℕ) (bs : List ℕ) → stops after b bs ≡ true → word after (b ∷ bs) ≡ []
word_stopped after b bs e = rw e refl

past_stopped : (after : Bool) (b : ℕ) (bs : List ℕ) → stops after b bs ≡ true → past_word after (b ∷ bs) ≡ b ∷ bs
past_stopped after b bs e = rw e refl

pub word_more : (bs : List ℕ) (i : ℕ) (after : Bool) → i < length bs → stops after (get_or bs i 0) (drop (i + 1) bs) ≡ false
    → (take i bs ++ word after (drop i bs) ≡ take (i + 1) bs ++ word (is_blank (get_or bs i 0)) (drop (i + 1) bs)) × (past_word after (drop i bs) ≡ past_word (is_blank (get_or bs i 0)) (drop (i + 1) bs))
word_more bs i after h e =
    let b = get_or bs i 0 in (
      at_drop_more (λ t. take i bs ++ word after t) bs i 0 h ∙ ap (λ w. take i bs ++ w) (word_going after b (drop (i + 1) bs) e)
          ∙ sym (append_assoc (take i bs) (b ∷ []) (word (is_blank b) (drop (i + 1) bs))) ∙ ap (λ t. t ++ word (is_blank b) (drop (i + 1) bs)) (sym (take_more bs i 0 h)),
      at_drop_more (past_word after) bs i 0 h ∙ past_going after b (drop (i + 1) bs) e,
    )

pub word_here : (bs : List ℕ) (i : ℕ) (after : Bool) → i < length bs → stops after (get_or bs i 0) (drop (i + 1) bs) ≡ true → (word after (drop i bs) ≡ []) × (past_word after (drop i bs) ≡ drop i bs)
word_here bs i after h e = (
  at_drop_more (word after) bs i 0 h ∙ word_stopped after (get_or bs i 0) (drop (i + 1) bs) e,
  at_drop_more (past_word after) bs i 0 h ∙ past_stopped after (get_or bs i 0) (drop (i + 1) bs) e ∙ sym (at_drop_more (λ t. t) bs i 0 h),
)
