-- Pieces of a text between separators.
use Rattle.std.proofs.Common.{◌≡◌, ◌≢◌, take, drop, get_or, ℕ, ◌<◌, List, [], ◌∷◌, length, arith, refl, Option, None, true, false, Bool, ◌+◌, ◌∙◌, sym, ap, ◌&&◌, inl, inr}
use Rattle.std.proofs.Math.Dec.{eqb, ltb}
use Rattle.std.specs.Char.{is_ascii_digit}
use Rattle.std.specs.List.{position_or_len, join_with_byte, count_by}
use Rattle.std.specs.Str.{all_ascii_digits}
use Rattle.std.proofs.lemmas.Bool.{eq-eqb, ne_eqb, cases_Bool, and_parts, and_right, or_cases}
use Rattle.std.proofs.lemmas.Bool.Decides.{nat_tests}
use Rattle.std.proofs.lemmas.List.Splits.{slice_split_none, slice_split_first, join_with_byte-slice_split, length-slice_split}
use Rattle.std.proofs.lemmas.List.Sums.{fails_before_first, position_or_len_is}
use Rattle.fisca_time.specs.Instant.{date_of_pieces}
use Rattle.fisca_time.specs.PeriodText.{start_of_pieces, form_of_pieces, is_short_numeral, is_size_text}
use Rattle.fisca_time.specs.Pieces.{pieces, is_numeral}

-- no separator: the one piece is the text
pieces-none : (separator : ℕ) (text : List ℕ) → position_or_len (λ b. eqb b separator) text ≡ length text → pieces separator text ≡ text ∷ []
pieces-none separator text none = slice_split_none (λ b. eqb b separator) text (λ k d h. fails_before_first (λ b. eqb b separator) text k d (omega arith))

-- the first piece, up to the first separator, and those of the rest
pub pieces_at_first : (separator : ℕ) (text : List ℕ) (i : ℕ) → i < length text → get_or text i 0 ≡ separator → ((k : ℕ) → k < i → get_or text k 0 ≢ separator)
    → pieces separator text ≡ take i text ∷ pieces separator (drop (i + 1) text)
pieces_at_first separator text i inside here before =
    let at : position_or_len (λ b. eqb b separator) text ≡ i =
    position_or_len_is (λ b. eqb b separator) text i 0 (omega arith) (λ k h. ne_eqb (get_or text k 0) separator (before k h)) (λ _. eq-eqb (get_or text i 0) separator here) in
    slice_split_first (λ b. eqb b separator) text 0 (rw at inside) ∙ rw at refl

pub pieces_at_none : (separator : ℕ) (text : List ℕ) → ((k : ℕ) → k < length text → get_or text k 0 ≢ separator) → pieces separator text ≡ text ∷ []
pieces_at_none separator text none =
    pieces-none separator text (position_or_len_is (λ b. eqb b separator) text (length text) 0 (omega arith) (λ k h. ne_eqb (get_or text k 0) separator (none k h)) (λ h. absurd (omega arith)))

other_byte : (separator c : ℕ) → is_ascii_digit separator ≡ false → is_ascii_digit c ≡ true → eqb c separator ≡ false
other_byte separator c other digit = grind (arith, nat_tests)

-- a text of digits is one piece
pub pieces-digits : (separator : ℕ) (text : List ℕ) → is_ascii_digit separator ≡ false → all_ascii_digits text ≡ true → pieces separator text ≡ text ∷ []
pieces-digits separator [] other all = refl
pieces-digits separator (c ∷ cs) other all =
    let both = and_parts (is_ascii_digit c) (all_ascii_digits cs) all in
    rw (other_byte separator c other both.0, pieces-digits separator cs other both.1) refl

-- A reader of pieces that takes one last piece, and only one of digits, may take the whole rest of the text for it.
pub last_piece : {R : Type 0} (separator : ℕ) (text : List ℕ) (test : List ℕ → Bool) (f : List (List ℕ) → Option R)
    → is_ascii_digit separator ≡ false → (test text ≡ true → all_ascii_digits text ≡ true)
    → ((p : List ℕ) → test p ≡ false → f (p ∷ []) ≡ None) → ((p q : List ℕ) (ps : List (List ℕ)) → f (p ∷ q ∷ ps) ≡ None)
    → f (pieces separator text) ≡ f (text ∷ [])
last_piece separator text test f other digits refuses single =
    elim (cases_Bool (test text)) [
      | inl passes ↦ ap f (pieces-digits separator text other (digits passes))
      | inr fails ↦ refused (pieces separator text) (join_with_byte-slice_split separator text) (length-slice_split (λ c. eqb c separator) text) fails ∙ sym (refuses text fails)
    ]
  where
    refused : (ps : List (List ℕ)) → join_with_byte separator ps ≡ text → length ps ≡ count_by (λ c. eqb c separator) text + 1 → test text ≡ false → f ps ≡ None
    refused [] joined some fails = absurd (omega arith)
    refused (p ∷ []) joined some fails = refuses p (rw joined fails)
    refused (p ∷ q ∷ ps) joined some fails = single p q ps

-- the day of a date, the day of a start and the size of a period
pub date_of_pieces-day : (year month day : List ℕ) → date_of_pieces (year ∷ month ∷ pieces 45 day) ≡ date_of_pieces (year ∷ month ∷ day ∷ [])
date_of_pieces-day year month day =
    last_piece 45 day (is_numeral 2) (λ ps. date_of_pieces (year ∷ month ∷ ps)) refl
    (λ passes. (and_parts (eqb (length day) 2) (all_ascii_digits day) passes).1)
    (λ p fails. rw (and_right (is_numeral 4 year && is_numeral 2 month) (is_numeral 2 p) fails) refl)
    (λ _ _ _. refl)

pub short_digits : (day : List ℕ) → is_short_numeral day ≡ true → all_ascii_digits day ≡ true
short_digits day passes =
    elim (or_cases (is_numeral 1 day) (is_numeral 2 day) passes) [
      | inl one ↦ (and_parts (eqb (length day) 1) (all_ascii_digits day) one).1
      | inr two ↦ (and_parts (eqb (length day) 2) (all_ascii_digits day) two).1
    ]

pub start_of_pieces-day : (year month day : List ℕ) → start_of_pieces (year ∷ month ∷ pieces 45 day) ≡ start_of_pieces (year ∷ month ∷ day ∷ [])
start_of_pieces-day year month day =
    last_piece 45 day is_short_numeral (λ ps. start_of_pieces (year ∷ month ∷ ps)) refl (short_digits day)
    (λ p fails. rw (and_right (is_numeral 4 year && is_short_numeral month) (is_short_numeral p) fails) refl)
    (λ _ _ _. refl)

pub form_of_pieces-size : (word start size : List ℕ) → form_of_pieces (word ∷ start ∷ pieces 58 size) ≡ form_of_pieces (word ∷ start ∷ size ∷ [])
form_of_pieces-size word start size =
    last_piece 58 size is_size_text (λ ps. form_of_pieces (word ∷ start ∷ ps)) refl
    (λ passes. (and_parts (ltb 0 (length size)) (all_ascii_digits size) passes).1)
    (λ p fails. rw fails refl)
    (λ _ _ _. refl)

-- a date from its three pieces
pub date_of_pieces-text : (text year rest month day : List ℕ) → pieces 45 text ≡ year ∷ pieces 45 rest → pieces 45 rest ≡ month ∷ pieces 45 day
    → date_of_pieces (pieces 45 text) ≡ date_of_pieces (year ∷ month ∷ day ∷ [])
date_of_pieces-text text year rest month day first second = rw (first, second) (date_of_pieces-day year month day)
