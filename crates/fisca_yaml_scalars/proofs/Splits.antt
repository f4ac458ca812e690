-- The first line of a text.
use Rattle.std.proofs.Common.{◌≡◌, ◌≢◌, ℕ, ◌+◌, ◌<◌, ◌≤◌, Bool, false, cond, eqb, List, [], ◌∷◌, ◌++◌, length, get_or, take, drop, refl, sym, ap, subst, ◌∙◌, arith}
use Rattle.std.specs.List.{All}
use Rattle.std.specs.List.{slice_split}
use Rattle.std.specs.Str.Lines.{lines, lines_of_parts, strip_carriage_return}
use Rattle.std.proofs.lemmas.List.{take_all, length-take, get_or-take, drop_more, take-append-drop}
use Rattle.std.proofs.lemmas.List.Elements.{All-from_get_or}
use Rattle.std.proofs.lemmas.List.Splits.{slice_split_none, slice_split_at, length-slice_split}
use borrow.Author.Tests.{ne_eqb}

abbrev is_feed : ℕ → Bool
is_feed b = eqb b 10

parts-cons : (x : List ℕ) (parts : List (List ℕ)) → 0 < length parts → lines_of_parts (x ∷ parts) ≡ strip_carriage_return x ∷ lines_of_parts parts
parts-cons x [] l = absurd (omega arith)
parts-cons x (y ∷ more) l = refl

lacks : (w : List ℕ) (n : ℕ) → n ≤ length w → ((k : ℕ) → k < n → get_or w k 0 ≢ 10) → All (λ b. is_feed b ≡ false) (take n w)
lacks w n h f = All-from_get_or (λ b. is_feed b ≡ false) (take n w) 0 (λ i l. let lt : i < n = omega (arith, length-take n w) in rw (get_or-take n w i 0 lt) (ne_eqb (get_or w i 0) 10 (f i lt)))

pub only_line : (w : List ℕ) → 0 < length w → ((k : ℕ) → k < length w → get_or w k 0 ≢ 10) → lines w ≡ w ∷ []
only_line w h f =
    let whole : take (length w) w ≡ w = take_all (length w) w (omega arith) in
    let none : All (λ b. is_feed b ≡ false) w = subst (All (λ b. is_feed b ≡ false)) whole (lacks w (length w) (omega arith) f) in
    ap lines_of_parts (slice_split_none is_feed w none) ∙ ap (λ t. cond t [] (w ∷ [])) (ne_eqb (length w) 0 (λ z. omega arith))

pub first : (w : List ℕ) (n : ℕ) → n < length w → get_or w n 0 ≡ 10 → ((k : ℕ) → k < n → get_or w k 0 ≢ 10) → lines w ≡ strip_carriage_return (take n w) ∷ lines (drop (n + 1) w)
first w n h e f =
    let rest = drop (n + 1) w in
    let parts : take n w ++ 10 ∷ rest ≡ w = ap (λ b. take n w ++ b ∷ rest) (sym e) ∙ ap (λ t. take n w ++ t) (sym (drop_more w n 0 h)) ∙ take-append-drop n w in
    ap lines (sym parts) ∙ ap lines_of_parts (slice_split_at is_feed (take n w) 10 rest (lacks w n (omega arith) f) refl)
    ∙ parts-cons (take n w) (slice_split is_feed rest) (omega (arith, length-slice_split is_feed rest))
