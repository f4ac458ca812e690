-- The text of a period reads as that period.
use Rattle.std.proofs.Common.{◌≡◌, ℕ, ◌+◌, ◌-◌, ◌*◌, ◌/◌, ◌%◌, ◌^◌, ◌<◌, ◌≤◌, List, [], ◌∷◌, ◌++◌, length, replicate, codes, arith, refl, zero, suc, Bool, true, false, ◌&&◌, ◌||◌, Some, Ok, pos, ◌∙◌, ap, sym, append_assoc, inl, inr}
use Rattle.std.proofs.Math.Dec.{eqb, ltb}
use Rattle.std.proofs.lemmas.Bool.{cases_Bool, and_from, and_parts, eq-eqb, eqb-true, lt-ltb, or_right}
use Rattle.std.proofs.lemmas.Bool.Decides.{nat_tests}
use Rattle.std.proofs.lemmas.Fmt.{digits_decimal, digits_value-decimal, length-decimal-le, decimal_nonempty}
use Rattle.std.proofs.lemmas.List.{length-append, length-replicate}
use Rattle.std.proofs.lemmas.List.Elements.{All-append, All-cons, All-nil}
use Rattle.std.proofs.lemmas.List.Splits.{slice_split_none, slice_split_at}
use Rattle.std.specs.Cmp.Lexicographic.{bytes_decides}
use Rattle.std.specs.Fmt.{decimal}
use Rattle.std.specs.List.{All}
use Rattle.std.specs.Str.{all_ascii_digits}
use Rattle.std.specs.Str.Parse.{digits_value}
use Rattle.std.specs.Char.{is_ascii_digit}
use Rattle.jiff_core.proofs.CalendarLemmas.{days_in_month_bounds}
use Rattle.fisca_time.specs.Calendar.{date_of, first_of_month}
use Rattle.fisca_time.specs.Instant.{CivilDate, is_between, is_on_calendar}
use Rattle.fisca_time.specs.Period.{Span, eternity, months, days, is_period, is_in_calendar}
use Rattle.fisca_time.specs.PeriodText.{digits_to, year_text, month_text, date_text, unit_text, counted_text, text_of, is_word, is_short_numeral, is_size_text, start_of_text, form_in, with_size, period_of_form, period_if_written, period_of_text}
use Rattle.fisca_time.specs.Pieces.{pieces, is_numeral}
use Rattle.fisca_time.specs.Unit.{is_month, is_year}
use Rattle.fisca_time.specs.declared.form.Form.{Form}
use Rattle.fisca_time.specs.declared.unit.Unit.{Unit}
use Rattle.fisca_time.specs.declared.unit.Unit.TheVariants.{Day, Month, Year, Eternity}
use Rattle.fisca_time.proofs.Numerals.{decimal_numerals}
use Rattle.fisca_time.proofs.Days.{IsReal, real, date_of_real, number_of_date, on_calendar}
use Rattle.fisca_time.proofs.Spans.{IsMonths, IsDays, months_parts, days_parts}
use Rattle.fisca_time.proofs.Splits.{pieces-digits}

-- ---- numerals

zeros_digits : (k : ℕ) (ds : List ℕ) → all_ascii_digits ds ≡ true → all_ascii_digits (replicate k 48 ++ ds) ≡ true
zeros_digits zero ds h = h
zeros_digits (suc k) ds h = zeros_digits k ds h

zeros_value : (k : ℕ) (ds : List ℕ) → digits_value 10 (replicate k 48 ++ ds) ≡ digits_value 10 ds
zeros_value zero ds = refl
zeros_value (suc k) ds = zeros_value k ds

pub decimal_digits : (n : ℕ) → n < 2 ^ 64 → all_ascii_digits (decimal n) ≡ true
decimal_digits n h = digits_decimal decimal_numerals n h

pub digits_to_digits : (count n : ℕ) → n < 2 ^ 64 → all_ascii_digits (digits_to count n) ≡ true
digits_to_digits count n h = zeros_digits (count - length (decimal n)) (decimal n) (decimal_digits n h)

digits_to_value : (count n : ℕ) → n < 2 ^ 64 → digits_value 10 (digits_to count n) ≡ n
digits_to_value count n h = zeros_value (count - length (decimal n)) (decimal n) ∙ digits_value-decimal decimal_numerals n h

pub length-digits_to : (count n : ℕ) → 0 < count → n < 10 ^ count → n < 2 ^ 64 → length (digits_to count n) ≡ count
length-digits_to count n some small h =
    let short : length (decimal n) ≤ count = length-decimal-le count n some small h in
    omega (arith, length-append (replicate (count - length (decimal n)) 48) (decimal n), length-replicate {A = ℕ} (count - length (decimal n)) 48)

digits_to_numeral : (count n : ℕ) → 0 < count → n < 10 ^ count → n < 2 ^ 64 → is_numeral count (digits_to count n) ≡ true
digits_to_numeral count n some small h =
    and_from (eqb (length (digits_to count n)) count) (all_ascii_digits (digits_to count n))
    (eq-eqb (length (digits_to count n)) count (length-digits_to count n some small h)) (digits_to_digits count n h)

-- ---- pieces

avoids : (separator : ℕ) → is_ascii_digit separator ≡ false → (xs : List ℕ) → all_ascii_digits xs ≡ true → All (λ c. eqb c separator ≡ false) xs
avoids separator other [] h = All-nil (λ c. eqb c separator ≡ false)
avoids separator other (c ∷ cs) h =
    let both = and_parts (is_ascii_digit c) (all_ascii_digits cs) h in
    All-cons (λ c. eqb c separator ≡ false) c cs (different c both.0) (avoids separator other cs both.1)
  where
    different : (c : ℕ) → is_ascii_digit c ≡ true → eqb c separator ≡ false
    different c digit = grind (arith, nat_tests)

-- ---- starts

-- a year, a month and a day in as many digits as they are written in
pub record IsWritten (d : CivilDate) : Type 0 where
  pub year : d.year < 10 ^ 4
  pub month : d.month < 10 ^ 2
  pub day : d.day < 10 ^ 2
  pub year_room : d.year < 2 ^ 64
  pub month_room : d.month < 2 ^ 64
  pub day_room : d.day < 2 ^ 64

pub is_written : (d : CivilDate) → is_on_calendar d ≡ true → IsWritten d
is_written d h =
    let r = real d h in
    let long = (days_in_month_bounds (pos d.year) d.month).0 in
    record {
      year = omega (arith, r.1);
      month = omega (arith, r.0.month_end);
      day = omega (arith, r.0.day_end, long);
      year_room = omega (arith, r.1);
      month_room = omega (arith, r.0.month_end);
      day_room = omega (arith, r.0.day_end, long);
    }

-- the first of a month is a day of the calendar
pub first_real : (n : ℕ) → 12 ≤ n → n < 120_000 → is_on_calendar (first_of_month n) ≡ true
first_real n from to =
    let long = (days_in_month_bounds (pos (n / 12)) (n % 12 + 1)).1 in
    let r : IsReal (first_of_month n) = record { year = omega arith; month = omega arith; month_end = omega arith; day = omega arith; day_end = omega (arith, long) } in
    on_calendar (first_of_month n) r (omega arith)

short : (n : ℕ) → n < 10 ^ 2 → n < 2 ^ 64 → is_short_numeral (digits_to 2 n) ≡ true
short n small room = or_right (is_numeral 1 (digits_to 2 n)) (is_numeral 2 (digits_to 2 n)) (digits_to_numeral 2 n (omega arith) small room)

-- what a start says
abbrev pub year_form : ℕ → Form
year_form year = record { unit = Year; year = year; month = 1; day = 1; size = 1 }

abbrev pub month_form : Unit → ℕ → ℕ → Form
month_form unit year month = record { unit = unit; year = year; month = month; day = 1; size = 1 }

abbrev pub date_form : CivilDate → Form
date_form d = record { unit = Day; year = d.year; month = d.month; day = d.day; size = 1 }

year_start : (d : CivilDate) → IsWritten d → start_of_text (year_text d.year) ≡ Some (year_form d.year)
year_start d k =
    rw (
      pieces-digits 45 (year_text d.year) refl (digits_to_digits 4 d.year k.year_room),
      digits_to_numeral 4 d.year (omega arith) k.year k.year_room,
      digits_to_value 4 d.year k.year_room,
    )
    refl

-- the pieces of a text that begins with a numeral and a dash
dashed : (count n : ℕ) (rest : List ℕ) → n < 2 ^ 64 → pieces 45 (digits_to count n ++ codes "-" ++ rest) ≡ digits_to count n ∷ pieces 45 rest
dashed count n rest room =
    ap (pieces 45) (append_assoc (digits_to count n) (codes "-") rest)
    ∙ slice_split_at (λ c. eqb c 45) (digits_to count n) 45 rest (avoids 45 refl (digits_to count n) (digits_to_digits count n room)) refl

month_start : (d : CivilDate) → IsWritten d → start_of_text (month_text d.year d.month) ≡ Some (month_form Month d.year d.month)
month_start d k =
    let parts : pieces 45 (month_text d.year d.month) ≡ year_text d.year ∷ digits_to 2 d.month ∷ [] =
    dashed 4 d.year (digits_to 2 d.month) k.year_room ∙ ap (λ ps. year_text d.year ∷ ps) (pieces-digits 45 (digits_to 2 d.month) refl (digits_to_digits 2 d.month k.month_room))
    in
    rw (parts, digits_to_numeral 4 d.year (omega arith) k.year k.year_room, short d.month k.month k.month_room, digits_to_value 4 d.year k.year_room, digits_to_value 2 d.month k.month_room) refl

date_parts : (d : CivilDate) → IsWritten d → pieces 45 (date_text d) ≡ year_text d.year ∷ digits_to 2 d.month ∷ digits_to 2 d.day ∷ []
date_parts d k =
    ap (pieces 45) (append_assoc (year_text d.year ++ codes "-" ++ digits_to 2 d.month) (codes "-") (digits_to 2 d.day) ∙ append_assoc (year_text d.year ++ codes "-") (digits_to 2 d.month) (codes "-" ++ digits_to 2 d.day))
    ∙ dashed 4 d.year (digits_to 2 d.month ++ (codes "-" ++ digits_to 2 d.day)) k.year_room
    ∙ ap (λ ps. year_text d.year ∷ ps)
    (ap (pieces 45) (sym (append_assoc (digits_to 2 d.month) (codes "-") (digits_to 2 d.day)))
    ∙ dashed 2 d.month (digits_to 2 d.day) k.month_room
    ∙ ap (λ ps. digits_to 2 d.month ∷ ps) (pieces-digits 45 (digits_to 2 d.day) refl (digits_to_digits 2 d.day k.day_room)))

date_start : (d : CivilDate) → IsWritten d → start_of_text (date_text d) ≡ Some (date_form d)
date_start d k =
    rw (
      date_parts d k,
      digits_to_numeral 4 d.year (omega arith) k.year k.year_room,
      short d.month k.month k.month_room,
      short d.day k.day k.day_room,
      digits_to_value 4 d.year k.year_room,
      digits_to_value 2 d.month k.month_room,
      digits_to_value 2 d.day k.day_room,
    )
    refl

-- no colon stands in a start
abbrev IsClear : List ℕ → Type 0
IsClear s = All (λ c. eqb c 58 ≡ false) s

dash_clear : IsClear (codes "-")
dash_clear = All-cons (λ c. eqb c 58 ≡ false) 45 [] refl (All-nil (λ c. eqb c 58 ≡ false))

joined_clear : (a b : List ℕ) → IsClear a → IsClear b → IsClear (a ++ codes "-" ++ b)
joined_clear a b h k = All-append (λ c. eqb c 58 ≡ false) (a ++ codes "-") b (All-append (λ c. eqb c 58 ≡ false) a (codes "-") h dash_clear) k

year_clear : (d : CivilDate) → IsWritten d → IsClear (year_text d.year)
year_clear d k = avoids 58 refl (year_text d.year) (digits_to_digits 4 d.year k.year_room)

month_clear : (d : CivilDate) → IsWritten d → IsClear (month_text d.year d.month)
month_clear d k = joined_clear (year_text d.year) (digits_to 2 d.month) (year_clear d k) (avoids 58 refl (digits_to 2 d.month) (digits_to_digits 2 d.month k.month_room))

date_clear : (d : CivilDate) → IsWritten d → IsClear (date_text d)
date_clear d k = joined_clear (month_text d.year d.month) (digits_to 2 d.day) (month_clear d k) (avoids 58 refl (digits_to 2 d.day) (digits_to_digits 2 d.day k.day_room))

pub length-year : (d : CivilDate) → IsWritten d → length (year_text d.year) ≡ 4
length-year d k = length-digits_to 4 d.year (omega arith) k.year k.year_room

pub length-month : (d : CivilDate) → IsWritten d → length (month_text d.year d.month) ≡ 7
length-month d k =
    omega (
      arith,
      length-append (year_text d.year ++ codes "-") (digits_to 2 d.month),
      length-append (year_text d.year) (codes "-"),
      length-year d k,
      length-digits_to 2 d.month (omega arith) k.month k.month_room,
    )

pub length-date : (d : CivilDate) → IsWritten d → length (date_text d) ≡ 10
length-date d k =
    omega (
      arith,
      length-append (month_text d.year d.month ++ codes "-") (digits_to 2 d.day),
      length-append (month_text d.year d.month) (codes "-"),
      length-month d k,
      length-digits_to 2 d.day (omega arith) k.day k.day_room,
    )

-- ---- whole texts

other_word : (word text : List ℕ) → (length text ≡ length word → ⊥) → is_word word text ≡ false
other_word word text differ =
    elim (cases_Bool (is_word word text)) [
      | inl same ↦ absurd (differ (ap length ((bytes_decides text word).0 same)))
      | inr other ↦ other
    ]

-- a start alone, which is not as long as the words of eternity
lone_text : (s : List ℕ) (f : Form) → (length s ≡ 8 → ⊥) → IsClear s → start_of_text s ≡ Some f → period_of_text s ≡ period_of_form f
lone_text s f differ clear is =
    rw (other_word (codes "ETERNITY") s differ, other_word (codes "eternity") s differ, slice_split_none (λ c. eqb c 58) s clear) (ap period_if_written is)

-- a start under its unit
under_text : (u : Unit) (s : List ℕ) (g f : Form) → IsClear s → start_of_text s ≡ Some g → form_in u g ≡ Some f → period_of_text (unit_text u ++ codes ":" ++ s) ≡ period_of_form f
under_text Day s g f clear begun is = rw (slice_split_none (λ c. eqb c 58) s clear, begun) (ap period_if_written is)
under_text Month s g f clear begun is = rw (slice_split_none (λ c. eqb c 58) s clear, begun) (ap period_if_written is)
under_text Year s g f clear begun is = rw (slice_split_none (λ c. eqb c 58) s clear, begun) (ap period_if_written is)
under_text Eternity s g f clear begun is = cc

-- a start, a colon and a size
sized_pieces : (s : List ℕ) (size : ℕ) → IsClear s → size < 2 ^ 64 → pieces 58 (s ++ codes ":" ++ decimal size) ≡ s ∷ decimal size ∷ []
sized_pieces s size clear room =
    ap (pieces 58) (append_assoc s (codes ":") (decimal size))
    ∙ slice_split_at (λ c. eqb c 58) s 58 (decimal size) clear refl
    ∙ ap (λ ps. s ∷ ps) (pieces-digits 58 (decimal size) refl (decimal_digits size room))

size_text : (size : ℕ) → size < 2 ^ 64 → is_size_text (decimal size) ≡ true
size_text size room =
    and_from (ltb 0 (length (decimal size))) (all_ascii_digits (decimal size)) (lt-ltb 0 (length (decimal size)) (decimal_nonempty size room)) (decimal_digits size room)

sized_text : (u : Unit) (s : List ℕ) (size : ℕ) (g f : Form) → IsClear s → size < 2 ^ 64 → start_of_text s ≡ Some g → form_in u g ≡ Some f
    → period_of_text (unit_text u ++ codes ":" ++ s ++ codes ":" ++ decimal size) ≡ period_of_form (with_size size f)
sized_text Day s size g f clear room begun is = rw (sized_pieces s size clear room, size_text size room, begun, is, digits_value-decimal decimal_numerals size room) refl
sized_text Month s size g f clear room begun is = rw (sized_pieces s size clear room, size_text size room, begun, is, digits_value-decimal decimal_numerals size room) refl
sized_text Year s size g f clear room begun is = rw (sized_pieces s size clear room, size_text size room, begun, is, digits_value-decimal decimal_numerals size room) refl
sized_text Eternity s size g f clear room begun is = cc

-- a start with its unit and size, where the start by itself says the same
counted_reads : (u : Unit) (alone : Bool) (s : List ℕ) (size : ℕ) (g f : Form) → IsClear s → size < 2 ^ 64 → (length s ≡ 8 → ⊥) → start_of_text s ≡ Some g → form_in u g ≡ Some f
    → with_size 1 f ≡ f → (alone ≡ true → g ≡ f) → period_of_text (counted_text u alone s size) ≡ period_of_form (with_size size f)
counted_reads u alone s size g f clear room differ begun is unsized same =
    elim (cases_Bool (eqb size 1)) [
      | inl one ↦
          let count : size ≡ 1 = eqb-true size 1 one in
          rw count
          (elim (cases_Bool alone) [
            | inl h ↦ rw h (lone_text s g differ clear begun ∙ ap period_of_form (same h ∙ sym unsized))
            | inr h ↦ rw h (under_text u s g f clear begun is ∙ ap period_of_form (sym unsized))
          ])
      | inr more ↦ rw more (sized_text u s size g f clear room begun is)
    ]

-- ---- periods

-- a form with a size that makes a period
months_formed : (unit : Unit) (first size : ℕ) → is_period (months unit first size) ≡ true → is_on_calendar (first_of_month first) ≡ true → is_between 1 1200 size ≡ true
    → is_in_calendar (months unit first size) ≡ true → 12 ≤ first → period_of_form (with_size size (month_form unit (first / 12) (first % 12 + 1))) ≡ Ok (months unit first size)
months_formed Day first size h real sizes inside from = let none : false ≡ true = h in cc
months_formed Eternity first size h real sizes inside from = let none : false ≡ true = h in cc
months_formed Month first size h real sizes inside from =
    let whole : 12 * (first / 12) + (first % 12 + 1 - 1) ≡ first = omega arith in
    rw (real, sizes, whole, inside) refl
months_formed Year first size h real sizes inside from =
    let whole : 12 * (first / 12) + (first % 12 + 1 - 1) ≡ first = omega arith in
    rw (real, sizes, whole, inside) refl

month_reads : (unit : Unit) (first size : ℕ) → is_period (months unit first size) ≡ true
    → period_of_form (with_size size (month_form unit (first / 12) (first % 12 + 1))) ≡ Ok (months unit first size)
month_reads unit first size h =
    let k : IsMonths unit first size = months_parts unit first size h in
    let parts = and_parts ((is_month unit || is_year unit) && is_between 1 1200 size) (is_in_calendar (months unit first size)) h in
    let sizes = (and_parts (is_month unit || is_year unit) (is_between 1 1200 size) parts.0).1 in
    let some : 1 ≤ size = k.some in
    months_formed unit first size h (first_real first k.from (omega (arith, k.to, k.months))) sizes parts.1 k.from

date_reads : (first size : ℕ) → is_period (days first size) ≡ true → period_of_form (with_size size (date_form (date_of first))) ≡ Ok (days first size)
date_reads first size h =
    let k : IsDays first size = days_parts first size h in
    let parts = and_parts (is_between 1 1200 size) (is_in_calendar (days first size)) h in
    rw (date_of_real first k.from (omega (arith, k.some, k.to)), parts.0, number_of_date first k.from, parts.1) refl

written_month : (first size : ℕ) → is_period (months Month first size) ≡ true → period_of_text (text_of (months Month first size)) ≡ Ok (months Month first size)
written_month first size h =
    let k : IsMonths Month first size = months_parts Month first size h in
    let d : CivilDate = first_of_month first in
    let w : IsWritten d = is_written d (first_real first k.from (omega (arith, k.to, k.months))) in
    let g : Form = month_form Month (first / 12) (first % 12 + 1) in
    counted_reads Month true (month_text (first / 12) (first % 12 + 1)) size g g (month_clear d w) (omega (arith, k.most)) (λ e. omega (arith, length-month d w)) (month_start d w) refl refl (λ _. refl)
    ∙ month_reads Month first size h

written_year : (first size : ℕ) → is_period (months Year first size) ≡ true → period_of_text (text_of (months Year first size)) ≡ Ok (months Year first size)
written_year first size h =
    let k : IsMonths Year first size = months_parts Year first size h in
    let to : first + 12 * size ≤ 120_000 = k.to in
    let d : CivilDate = first_of_month first in
    let w : IsWritten d = is_written d (first_real first k.from (omega (arith, k.some))) in
    let f : Form = month_form Year (first / 12) (first % 12 + 1) in
    elim (cases_Bool (eqb (first % 12 + 1) 1)) [
      | inl january ↦
          let is : first % 12 + 1 ≡ 1 = eqb-true (first % 12 + 1) 1 january in
          let whole : year_form (first / 12) ≡ f = ap (λ m. month_form Year (first / 12) m) (sym is) in
          rw january
          (counted_reads Year true (year_text (first / 12)) size (year_form (first / 12)) (year_form (first / 12)) (year_clear d w) (omega (arith, k.most)) (λ e. omega (arith, length-year d w)) (year_start d w) refl refl (λ _. refl)
          ∙ ap (λ g. period_of_form (with_size size g)) whole ∙ month_reads Year first size h)
      | inr later ↦
          rw later
          (counted_reads Year false (month_text (first / 12) (first % 12 + 1)) size (month_form Month (first / 12) (first % 12 + 1)) f (month_clear d w) (omega (arith, k.most)) (λ e. omega (arith, length-month d w)) (month_start d w) refl refl (λ h. cc)
          ∙ month_reads Year first size h)
    ]

written_days : (first size : ℕ) → is_period (days first size) ≡ true → period_of_text (text_of (days first size)) ≡ Ok (days first size)
written_days first size h =
    let k : IsDays first size = days_parts first size h in
    let d : CivilDate = date_of first in
    let w : IsWritten d = is_written d (date_of_real first k.from (omega (arith, k.some, k.to))) in
    counted_reads Day true (date_text d) size (date_form d) (date_form d) (date_clear d w) (omega (arith, k.most)) (λ e. omega (arith, length-date d w)) (date_start d w) refl refl (λ _. refl)
    ∙ date_reads first size h

-- the text of a period reads as that period
pub text_reads_back : (p : Span) → is_period p ≡ true → period_of_text (text_of p) ≡ Ok p
text_reads_back eternity h = refl
text_reads_back (months Day first size) h = let none : false ≡ true = h in cc
text_reads_back (months Month first size) h = written_month first size h
text_reads_back (months Year first size) h = written_year first size h
text_reads_back (months Eternity first size) h = let none : false ≡ true = h in cc
text_reads_back (days first size) h = written_days first size h
