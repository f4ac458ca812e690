-- No shorter text reads as a period.
use Rattle.std.proofs.Common.{◌≡◌, ℕ, ◌+◌, ◌/◌, ◌%◌, ◌^◌, ◌<◌, ◌≤◌, List, [], ◌∷◌, ◌++◌, length, codes, arith, refl, Bool, true, false, cond, ◌&&◌, ◌||◌, Option, Some, None, Result, Ok, Err, ◌⊎◌, ◌∙◌, sym, ap, inl, inr}
use Rattle.std.proofs.Math.Dec.{eqb, ltb}
use Rattle.std.proofs.lemmas.Bool.{cases_Bool, and_parts, eqb-true, eq-eqb, ltb-true, cond_both, or_cases}
use Rattle.std.proofs.lemmas.Fmt.{length-decimal-le}
use Rattle.std.proofs.lemmas.List.{length-append}
use Rattle.std.proofs.lemmas.List.Splits.{join_with_byte-slice_split}
use Rattle.std.proofs.lemmas.Str.Parse.{digits_value_short}
use Rattle.std.specs.Cmp.Lexicographic.{bytes_decides}
use Rattle.std.specs.Fmt.{decimal}
use Rattle.std.specs.List.{join_with_byte}
use Rattle.std.specs.Option.{option_and_then, option_map}
use Rattle.std.specs.Str.{all_ascii_digits}
use Rattle.std.specs.Str.Parse.{digits_value}
use Rattle.fisca_time.specs.Calendar.{date_of, first_of_month, month_number, day_number}
use Rattle.fisca_time.specs.Instant.{is_between, is_on_calendar}
use Rattle.fisca_time.specs.Period.{Span, eternity, months, days, is_period, is_in_calendar, unit_of, size_of}
use Rattle.fisca_time.specs.PeriodText.{text_of, date_text, month_text, year_text, is_word, is_short_numeral, is_size_text, start_of_text, start_of_pieces, unit_named, form_in, form_of_start, form_of_pieces, with_size, date_in, period_from, period_of_form, period_if_written, has_two_digits, IsShortest}
use Rattle.fisca_time.specs.Steps.PeriodText.{start_in}
use Rattle.fisca_time.specs.Pieces.{pieces, is_numeral}
use Rattle.fisca_time.specs.Unit.{is_day, is_month}
use Rattle.fisca_time.specs.declared.fault.TimeFault.{TimeFault}
use Rattle.fisca_time.specs.declared.fault.TimeFault.TheVariants.{OutOfRange}
use Rattle.fisca_time.specs.declared.form.Form.{Form}
use Rattle.fisca_time.specs.declared.unit.Unit.{Unit}
use Rattle.fisca_time.specs.declared.unit.Unit.TheVariants.{Day, Month, Year, Eternity}
use Rattle.fisca_time.proofs.Numerals.{decimal_numerals}
use Rattle.fisca_time.proofs.Days.{date_of_real, real}
use Rattle.fisca_time.proofs.ReadBack.{IsWritten, is_written, first_real, length-year, length-month, length-date}
use Rattle.fisca_time.proofs.Spans.{IsMonths, IsDays, months_parts, days_parts}

some_from_cond : {A : Type 0} (b : Bool) (x g : A) → cond b (Some x) None ≡ Some g → (b ≡ true) × (x ≡ g)
some_from_cond true x g h = (refl, cc)
some_from_cond false x g h = cc

some_from_cond_not : {A : Type 0} (b : Bool) (x g : A) → cond b None (Some x) ≡ Some g → (b ≡ false) × (x ≡ g)
some_from_cond_not true x g h = cc
some_from_cond_not false x g h = (refl, cc)

-- the same, of a form that is given a size
some_from_cond_map : (b : Bool) (h : Form → Form) (o : Option Form) (f : Form) → cond b (option_map h o) None ≡ Some f → (b ≡ true) × ((g : Form) × ((o ≡ Some g) × (h g ≡ f)))
some_from_cond_map true h None f is = cc
some_from_cond_map true h (Some g) f is = (refl, (g, (refl, cc)))
some_from_cond_map false h o f is = cc

ok_from_cond : (b : Bool) (r : Result Span TimeFault) (e : TimeFault) (p : Span) → cond b r (Err e) ≡ Ok p → (b ≡ true) × (r ≡ Ok p)
ok_from_cond true r e p h = (refl, h)
ok_from_cond false r e p h = cc

ok_same : (q p : Span) (r : Result Span TimeFault) → r ≡ Ok q → r ≡ Ok p → q ≡ p
ok_same q p r a b = cc

-- ---- how long the text is

-- a text with a unit, or with a unit and a size
length-under : (unit start : List ℕ) → length (unit ++ codes ":" ++ start) ≡ length unit + 1 + length start
length-under unit start = omega (arith, length-append (unit ++ codes ":") start, length-append unit (codes ":"))

length-sized : (unit start size : List ℕ) → length (unit ++ codes ":" ++ start ++ codes ":" ++ size) ≡ length unit + 1 + length start + 1 + length size
length-sized unit start size = omega (arith, length-append (unit ++ codes ":" ++ start ++ codes ":") size, length-append (unit ++ codes ":" ++ start) (codes ":"), length-under unit start)

length-months : (n size : ℕ) → IsWritten (first_of_month n) → length (text_of (months Month n size)) ≡ cond (eqb size 1) 7 (14 + length (decimal size))
length-months n size k =
    let start = length-month (first_of_month n) k in
    elim (cases_Bool (eqb size 1)) [
      | inl one ↦ rw one start
      | inr more ↦ rw more (omega (arith, start, length-sized (codes "month") (month_text (n / 12) (n % 12 + 1)) (decimal size)))
    ]

length-days : (n size : ℕ) → IsWritten (date_of n) → length (text_of (days n size)) ≡ cond (eqb size 1) 10 (15 + length (decimal size))
length-days n size k =
    let start = length-date (date_of n) k in
    elim (cases_Bool (eqb size 1)) [
      | inl one ↦ rw one start
      | inr more ↦ rw more (omega (arith, start, length-sized (codes "day") (date_text (date_of n)) (decimal size)))
    ]

length-years : (n size : ℕ) → IsWritten (first_of_month n)
    → length (text_of (months Year n size)) ≡ cond (eqb size 1) (cond (eqb (n % 12 + 1) 1) 4 12) (cond (eqb (n % 12 + 1) 1) 10 13 + length (decimal size))
length-years n size k =
    let year = length-year (first_of_month n) k in
    let month = length-month (first_of_month n) k in
    elim (cases_Bool (eqb size 1)) [
      | inl one ↦
          elim (cases_Bool (eqb (n % 12 + 1) 1)) [
            | inl january ↦ rw (one, january) year
            | inr later ↦ rw (one, later) (omega (arith, month, length-under (codes "year") (month_text (n / 12) (n % 12 + 1))))
          ]
      | inr more ↦
          elim (cases_Bool (eqb (n % 12 + 1) 1)) [
            | inl january ↦ rw (more, january) (omega (arith, year, length-sized (codes "year") (year_text (n / 12)) (decimal size)))
            | inr later ↦ rw (more, later) (omega (arith, month, length-sized (codes "year") (month_text (n / 12) (n % 12 + 1)) (decimal size)))
          ]
    ]

-- ---- how long a text must be

-- what a start says, and its length
pub record IsYearStart (s : List ℕ) (g : Form) : Type 0 where
  pub unit : g.unit ≡ Year
  pub month : g.month ≡ 1
  pub size : g.size ≡ 1
  pub length : length s ≡ 4

pub record IsMonthStart (s : List ℕ) (g : Form) : Type 0 where
  pub unit : g.unit ≡ Month
  pub size : g.size ≡ 1
  pub length : length s ≡ 7

pub record IsDayStart (s : List ℕ) (g : Form) : Type 0 where
  pub unit : g.unit ≡ Day
  pub size : g.size ≡ 1
  pub length : length s ≡ 10

abbrev IsStart : List ℕ → Form → Type 0
IsStart s g = IsYearStart s g ⊎ (IsMonthStart s g ⊎ IsDayStart s g)

four_digits : (y : List ℕ) → is_numeral 4 y ≡ true → length y ≡ 4
four_digits y h = eqb-true (length y) 4 (and_parts (eqb (length y) 4) (all_ascii_digits y) h).0

start_length : (s : List ℕ) (g : Form) → start_of_text s ≡ Some g → has_two_digits (pieces 45 s) ≡ true → IsStart s g
start_length s g is two = of_pieces (pieces 45 s) (join_with_byte-slice_split 45 s) is two
  where
    of_pieces : (ps : List (List ℕ)) → join_with_byte 45 ps ≡ s → start_of_pieces ps ≡ Some g → has_two_digits ps ≡ true → IsStart s g
    of_pieces [] joined is two = cc
    of_pieces (y ∷ []) joined is two =
        let read = some_from_cond (is_numeral 4 y) (record { unit = Year; year = digits_value 10 y; month = 1; day = 1; size = 1 }) g is in
        inl (record {
          unit = sym (ap (λ f. f.unit) read.1);
          month = sym (ap (λ f. f.month) read.1);
          size = sym (ap (λ f. f.size) read.1);
          length = ap length (sym joined) ∙ four_digits y read.0;
        })
    of_pieces (y ∷ m ∷ []) joined is two =
        let read = some_from_cond (is_numeral 4 y && is_short_numeral m) (record { unit = Month; year = digits_value 10 y; month = digits_value 10 m; day = 1; size = 1 }) g is in
        let four = four_digits y (and_parts (is_numeral 4 y) (is_short_numeral m) read.0).0 in
        let digits : length m ≡ 2 = eqb-true (length m) 2 two in
        inr (inl (record {
          unit = sym (ap (λ f. f.unit) read.1);
          size = sym (ap (λ f. f.size) read.1);
          length = ap length (sym joined) ∙ omega (arith, length-append y (45 ∷ m), four, digits);
        }))
    of_pieces (y ∷ m ∷ d ∷ []) joined is two =
        let read = some_from_cond (is_numeral 4 y && is_short_numeral m && is_short_numeral d) (record { unit = Day; year = digits_value 10 y; month = digits_value 10 m; day = digits_value 10 d; size = 1 }) g is in
        let front = (and_parts (is_numeral 4 y && is_short_numeral m) (is_short_numeral d) read.0).0 in
        let four = four_digits y (and_parts (is_numeral 4 y) (is_short_numeral m) front).0 in
        let both = and_parts (eqb (length m) 2) (eqb (length d) 2) two in
        let digits : length m ≡ 2 = eqb-true (length m) 2 both.0 in
        let more : length d ≡ 2 = eqb-true (length d) 2 both.1 in
        inr (inr (record {
          unit = sym (ap (λ f. f.unit) read.1);
          size = sym (ap (λ f. f.size) read.1);
          length = ap length (sym joined) ∙ omega (arith, length-append y (45 ∷ (m ++ 45 ∷ d)), length-append m (45 ∷ d), four, digits, more);
        }))
    of_pieces (y ∷ m ∷ d ∷ z ∷ ps) joined is two = cc

some_from_and_then : {A B : Type 0} (f : A → Option B) (o : Option A) (b : B) → option_and_then f o ≡ Some b → (a : A) × ((o ≡ Some a) × (f a ≡ Some b))
some_from_and_then f None b h = cc
some_from_and_then f (Some a) b h = (a, (refl, h))

-- the word before a start, and its length
unit_length : (word : List ℕ) (u : Unit) → unit_named word ≡ Some u → ((u ≡ Year) × (length word ≡ 4)) ⊎ (((u ≡ Month) × (length word ≡ 5)) ⊎ ((u ≡ Day) × (length word ≡ 3)))
unit_length word u named =
    elim (cases_Bool (is_word (codes "year") word)) [
      | inl years ↦
          let is : Some Year ≡ Some u = rw years at named in
          inl (cc, ap length ((bytes_decides word (codes "year")).0 years))
      | inr other ↦
          elim (cases_Bool (is_word (codes "month") word)) [
            | inl of_months ↦
                let is : Some Month ≡ Some u = rw (other, of_months) at named in
                inr (inl (cc, ap length ((bytes_decides word (codes "month")).0 of_months)))
            | inr last ↦
                elim (cases_Bool (is_word (codes "day") word)) [
                  | inl of_days ↦
                      let is : Some Day ≡ Some u = rw (other, last, of_days) at named in
                      inr (inr (cc, ap length ((bytes_decides word (codes "day")).0 of_days)))
                  | inr unknown ↦ let is : None ≡ Some u = rw (other, last, unknown) at named in absurd (cc)
                ]
          ]
    ]

-- what stands under a unit, and how long it is with its unit and the colon
pub record IsUnderMonth (word start : List ℕ) (f : Form) : Type 0 where
  pub unit : f.unit ≡ Month
  pub size : f.size ≡ 1
  pub length : length word + length start ≡ 12

pub record IsUnderJanuary (word start : List ℕ) (f : Form) : Type 0 where
  pub unit : f.unit ≡ Year
  pub month : f.month ≡ 1
  pub size : f.size ≡ 1
  pub length : length word + length start ≡ 8

pub record IsUnderYear (word start : List ℕ) (f : Form) : Type 0 where
  pub unit : f.unit ≡ Year
  pub size : f.size ≡ 1
  pub length : length word + length start ≡ 11

pub record IsUnderDay (word start : List ℕ) (f : Form) : Type 0 where
  pub unit : f.unit ≡ Day
  pub size : f.size ≡ 1
  pub length : length word + length start ≡ 13

abbrev IsUnder : List ℕ → List ℕ → Form → Type 0
IsUnder word start f = IsUnderMonth word start f ⊎ (IsUnderDay word start f ⊎ (IsUnderJanuary word start f ⊎ IsUnderYear word start f))

under_years : (word start : List ℕ) (g f : Form) → length word ≡ 4 → form_in Year g ≡ Some f → IsStart start g → IsUnder word start f
under_years word start g f four is begins =
    let read = some_from_cond_not (is_day g.unit) (record g { unit = Year }) f is in
    let same : record g { unit = Year } ≡ f = read.1 in
    elim begins [
      | inl y ↦ inr (inr (inl (record { unit = sym (ap (λ f. f.unit) same); month = sym (ap (λ f. f.month) same) ∙ y.month; size = sym (ap (λ f. f.size) same) ∙ y.size; length = omega (arith, four, y.length) })))
      | inr others ↦ elim others [
        | inl m ↦ inr (inr (inr (record { unit = sym (ap (λ f. f.unit) same); size = sym (ap (λ f. f.size) same) ∙ m.size; length = omega (arith, four, m.length) })))
        | inr d ↦ let other : is_day Day ≡ false = rw d.unit at read.0 in absurd (cc)
      ]
    ]

under_months : (word start : List ℕ) (g f : Form) → length word ≡ 5 → form_in Month g ≡ Some f → IsStart start g → IsUnder word start f
under_months word start g f five is begins =
    let read = some_from_cond (is_month g.unit) g f is in
    elim begins [
      | inl y ↦ let other : is_month Year ≡ true = rw y.unit at read.0 in absurd (cc)
      | inr others ↦ elim others [
        | inl m ↦ inl (record { unit = sym (ap (λ f. f.unit) read.1) ∙ m.unit; size = sym (ap (λ f. f.size) read.1) ∙ m.size; length = omega (arith, five, m.length) })
        | inr d ↦ let other : is_month Day ≡ true = rw d.unit at read.0 in absurd (cc)
      ]
    ]

under_days : (word start : List ℕ) (g f : Form) → length word ≡ 3 → form_in Day g ≡ Some f → IsStart start g → IsUnder word start f
under_days word start g f three is begins =
    let read = some_from_cond (is_day g.unit) g f is in
    elim begins [
      | inl y ↦ let other : is_day Year ≡ true = rw y.unit at read.0 in absurd (cc)
      | inr others ↦ elim others [
        | inl m ↦ let other : is_day Month ≡ true = rw m.unit at read.0 in absurd (cc)
        | inr d ↦ inr (inl (record { unit = sym (ap (λ f. f.unit) read.1) ∙ d.unit; size = sym (ap (λ f. f.size) read.1) ∙ d.size; length = omega (arith, three, d.length) }))
      ]
    ]

under_start : (word start : List ℕ) (u : Unit) (g f : Form) → unit_named word ≡ Some u → start_of_text start ≡ Some g → form_in u g ≡ Some f → has_two_digits (pieces 45 start) ≡ true → IsUnder word start f
under_start word start u g f named begun is two =
    let begins = start_length start g begun two in
    elim (unit_length word u named) [
      | inl y ↦ let in_years : form_in Year g ≡ Some f = rw y.0 at is in under_years word start g f y.1 in_years begins
      | inr others ↦ elim others [
        | inl m ↦ let in_months : form_in Month g ≡ Some f = rw m.0 at is in under_months word start g f m.1 in_months begins
        | inr d ↦ let in_days : form_in Day g ≡ Some f = rw d.0 at is in under_days word start g f d.1 in_days begins
      ]
    ]

under_length : (word start : List ℕ) (f : Form) → form_of_start word start ≡ Some f → has_two_digits (pieces 45 start) ≡ true → IsUnder word start f
under_length word start f is two =
    let named = some_from_and_then (λ unit. option_and_then (form_in unit) (start_of_text start)) (unit_named word) f is in
    let begun = some_from_and_then (form_in named.0) (start_of_text start) f named.1.1 in
    under_start word start named.0 begun.0 f named.1.0 begun.1.0 begun.1.1 two

-- ---- whole texts

decimal_length : (size : List ℕ) → is_size_text size ≡ true → digits_value 10 size < 2 ^ 64 → length (decimal (digits_value 10 size)) ≤ length size
decimal_length size is room =
    let parts = and_parts (ltb 0 (length size)) (all_ascii_digits size) is in
    length-decimal-le (length size) (digits_value 10 size) (ltb-true 0 (length size) parts.0) (digits_value_short decimal_numerals size (length size) parts.1 (omega arith)) room

-- how long a text is at least that has this form
abbrev IsLongMonth : Form → ℕ → Type 0
IsLongMonth f n = (f.unit ≡ Month) × (((f.size ≡ 1) × (7 ≤ n)) ⊎ (14 + length (decimal f.size) ≤ n))

abbrev IsLongDay : Form → ℕ → Type 0
IsLongDay f n = (f.unit ≡ Day) × (((f.size ≡ 1) × (10 ≤ n)) ⊎ (15 + length (decimal f.size) ≤ n))

abbrev IsLongYear : Form → ℕ → Type 0
IsLongYear f n = (f.unit ≡ Year) × ((((f.month ≡ 1) × (f.size ≡ 1) × (4 ≤ n)) ⊎ ((f.size ≡ 1) × (12 ≤ n))) ⊎ (((f.month ≡ 1) × (10 + length (decimal f.size) ≤ n)) ⊎ (13 + length (decimal f.size) ≤ n)))

abbrev IsLongEnough : Form → ℕ → Type 0
IsLongEnough f n = IsLongMonth f n ⊎ (IsLongDay f n ⊎ IsLongYear f n)

alone_length : (start : List ℕ) (f : Form) (n : ℕ) → IsStart start f → length start ≤ n → IsLongEnough f n
alone_length start f n begins whole =
    elim begins [
      | inl y ↦ inr (inr (y.unit, inl (inl (y.month, y.size, omega (arith, whole, y.length)))))
      | inr others ↦ elim others [
        | inl m ↦ inl (m.unit, inl (m.size, omega (arith, whole, m.length)))
        | inr d ↦ inr (inl (d.unit, inl (d.size, omega (arith, whole, d.length))))
      ]
    ]

under_enough : (word start : List ℕ) (f : Form) (n : ℕ) → IsUnder word start f → length word + 1 + length start ≤ n → IsLongEnough f n
under_enough word start f n under whole =
    elim under [
      | inl m ↦ inl (m.unit, inl (m.size, omega (arith, whole, m.length)))
      | inr others ↦ elim others [
        | inl d ↦ inr (inl (d.unit, inl (d.size, omega (arith, whole, d.length))))
        | inr years ↦ elim years [
          | inl y ↦ inr (inr (y.unit, inl (inl (y.month, y.size, omega (arith, whole, y.length)))))
          | inr y ↦ inr (inr (y.unit, inl (inr (y.size, omega (arith, whole, y.length)))))
        ]
      ]
    ]

sized_length : (word start size : List ℕ) (g f : Form) → IsUnder word start g → with_size (digits_value 10 size) g ≡ f → length (decimal (digits_value 10 size)) ≤ length size
    → IsLongEnough f (length word + 1 + (length start + 1 + length size))
sized_length word start size g f under same short =
    let unit : g.unit ≡ f.unit = ap (λ f. f.unit) same in
    let month : g.month ≡ f.month = ap (λ f. f.month) same in
    let value : digits_value 10 size ≡ f.size = ap (λ f. f.size) same in
    let room : length (decimal f.size) ≤ length size = rw value at short in
    elim under [
      | inl m ↦ inl (sym unit ∙ m.unit, inr (omega (arith, room, m.length)))
      | inr others ↦ elim others [
        | inl d ↦ inr (inl (sym unit ∙ d.unit, inr (omega (arith, room, d.length))))
        | inr years ↦ elim years [
          | inl y ↦ inr (inr (sym unit ∙ y.unit, inr (inl (sym month ∙ y.month, omega (arith, room, y.length)))))
          | inr y ↦ inr (inr (sym unit ∙ y.unit, inr (inr (omega (arith, room, y.length)))))
        ]
      ]
    ]

form_length : (text : List ℕ) (f : Form) → f.size < 2 ^ 64 → form_of_pieces (pieces 58 text) ≡ Some f → has_two_digits (pieces 45 (start_in (pieces 58 text))) ≡ true → IsLongEnough f (length text)
form_length text f room is two = of_pieces (pieces 58 text) (join_with_byte-slice_split 58 text) is two
  where
    of_pieces : (ps : List (List ℕ)) → join_with_byte 58 ps ≡ text → form_of_pieces ps ≡ Some f → has_two_digits (pieces 45 (start_in ps)) ≡ true → IsLongEnough f (length text)
    of_pieces [] joined is two = cc
    of_pieces (s ∷ []) joined is two =
        let whole : length s ≡ length text = ap length joined in
        alone_length s f (length text) (start_length s f is two) (omega (arith, whole))
    of_pieces (w ∷ s ∷ []) joined is two =
        let whole : length w + 1 + length s ≡ length text = omega (arith, length-append w (58 ∷ s), ap length joined) in
        under_enough w s f (length text) (under_length w s f is two) (omega (arith, whole))
    of_pieces (w ∷ s ∷ z ∷ []) joined is two =
        let whole : length w + 1 + (length s + 1 + length z) ≡ length text = omega (arith, length-append w (58 ∷ (s ++ 58 ∷ z)), length-append s (58 ∷ z), ap length joined) in
        let read = some_from_cond_map (is_size_text z) (with_size (digits_value 10 z)) (form_of_start w s) f is in
        let value : digits_value 10 z ≡ f.size = ap (λ f. f.size) read.1.1.1 in
        let short = decimal_length z read.0 (rw value room) in
        rw (← whole) (sized_length w s z read.1.0 f (under_length w s read.1.0 read.1.1.0 two) read.1.1.1 short)
    of_pieces (w ∷ s ∷ z ∷ p ∷ ps) joined is two = cc

-- a form that makes a period has its unit and its size, and the month that it starts in
pub record Makes (f : Form) (p : Span) : Type 0 where
  pub unit : f.unit ≡ unit_of p
  pub size : f.size ≡ size_of p

-- the month of a form that makes a period of months
abbrev MakesMonth : Form → Span → Type 0
MakesMonth f (months _ first _) = f.month ≡ first % 12 + 1
MakesMonth f (days _ _) = Prim.Unit {0}
MakesMonth f eternity = Prim.Unit {0}

in_span : (q p : Span) → cond (is_in_calendar q) (Ok q) (Err OutOfRange) ≡ Ok p → q ≡ p
in_span q p is = ok_same q p (Ok q) refl (ok_from_cond (is_in_calendar q) (Ok q) OutOfRange p is).1

months_made : (u : Unit) (f : Form) (p : Span) → is_on_calendar (date_in f) ≡ true → f.unit ≡ u → months u (month_number (date_in f)) f.size ≡ p → Makes f p × MakesMonth f p
months_made u f p h unit same =
    let r = (real (date_in f) h).0 in
    rw (← same) (record { unit = unit; size = refl }, omega (arith, r.month, r.month_end))

made_from : (f : Form) (u : Unit) (p : Span) → is_on_calendar (date_in f) ≡ true → f.unit ≡ u → period_from u f.size (date_in f) ≡ Ok p → Makes f p × MakesMonth f p
made_from f Day p h unit is = rw (← in_span (days (day_number (date_in f)) f.size) p is) (record { unit = unit; size = refl }, tt)
made_from f Month p h unit is = months_made Month f p h unit (in_span (months Month (month_number (date_in f)) f.size) p is)
made_from f Year p h unit is = months_made Year f p h unit (in_span (months Year (month_number (date_in f)) f.size) p is)
made_from f Eternity p h unit is = cc

makes : (f : Form) (p : Span) → period_of_form f ≡ Ok p → Makes f p × MakesMonth f p
makes f p is =
    let formed = ok_from_cond (is_on_calendar (date_in f) && is_between 1 1200 f.size) (period_from f.unit f.size (date_in f)) OutOfRange p is in
    let real = (and_parts (is_on_calendar (date_in f)) (is_between 1 1200 f.size) formed.0).0 in
    made_from f f.unit p real refl formed.1

-- a text of this form is as long as the text of the period that it makes
months_bound : (n size : ℕ) (f : Form) (len : ℕ) → IsWritten (first_of_month n) → Makes f (months Month n size) → IsLongEnough f len → length (text_of (months Month n size)) ≤ len
months_bound n size f len k made enough =
    let value : f.size ≡ size = made.size in
    elim enough [
      | inl m ↦ rw (length-months n size k) (elim m.1 [
        | inl a ↦ let one : size ≡ 1 = sym value ∙ a.0 in rw (eq-eqb size 1 one) a.1
        | inr b ↦
            let room : 14 + length (decimal size) ≤ len = rw value at b in
            cond_both (eqb size 1) 7 (14 + length (decimal size)) (λ x. x ≤ len) (λ _. omega (arith, room)) (λ _. room)
      ])
      | inr others ↦ elim others [
        | inl d ↦ let other : Day ≡ Month = sym d.0 ∙ made.unit in absurd (cc)
        | inr y ↦ let other : Year ≡ Month = sym y.0 ∙ made.unit in absurd (cc)
      ]
    ]

days_bound : (n size : ℕ) (f : Form) (len : ℕ) → IsWritten (date_of n) → Makes f (days n size) → IsLongEnough f len → length (text_of (days n size)) ≤ len
days_bound n size f len k made enough =
    let value : f.size ≡ size = made.size in
    elim enough [
      | inl m ↦ let other : Month ≡ Day = sym m.0 ∙ made.unit in absurd (cc)
      | inr others ↦ elim others [
        | inl d ↦ rw (length-days n size k) (elim d.1 [
          | inl a ↦ let one : size ≡ 1 = sym value ∙ a.0 in rw (eq-eqb size 1 one) a.1
          | inr b ↦
              let room : 15 + length (decimal size) ≤ len = rw value at b in
              cond_both (eqb size 1) 10 (15 + length (decimal size)) (λ x. x ≤ len) (λ _. omega (arith, room)) (λ _. room)
        ])
        | inr y ↦ let other : Year ≡ Day = sym y.0 ∙ made.unit in absurd (cc)
      ]
    ]

years_bound : (n size : ℕ) (f : Form) (len : ℕ) → IsWritten (first_of_month n) → Makes f (months Year n size) → f.month ≡ n % 12 + 1 → IsLongEnough f len → length (text_of (months Year n size)) ≤ len
years_bound n size f len k made month enough =
    let value : f.size ≡ size = made.size in
    elim enough [
      | inl m ↦ let other : Month ≡ Year = sym m.0 ∙ made.unit in absurd (cc)
      | inr others ↦ elim others [
        | inl d ↦ let other : Day ≡ Year = sym d.0 ∙ made.unit in absurd (cc)
        | inr y ↦ rw (length-years n size k) (elim y.1 [
          | inl alone ↦ elim alone [
            | inl a ↦ let one : size ≡ 1 = sym value ∙ a.1 in let january : n % 12 + 1 ≡ 1 = sym month ∙ a.0 in rw (eq-eqb size 1 one, eq-eqb (n % 12 + 1) 1 january) a.2
            | inr b ↦ let one : size ≡ 1 = sym value ∙ b.0 in rw (eq-eqb size 1 one) (cond_both (eqb (n % 12 + 1) 1) 4 12 (λ x. x ≤ len) (λ _. omega (arith, b.1)) (λ _. b.1))
          ]
          | inr sized ↦ elim sized [
            | inl c ↦
                let january : n % 12 + 1 ≡ 1 = sym month ∙ c.0 in
                let room : 10 + length (decimal size) ≤ len = rw value at c.1 in
                rw (eq-eqb (n % 12 + 1) 1 january) (cond_both (eqb size 1) 4 (10 + length (decimal size)) (λ x. x ≤ len) (λ _. omega (arith, room)) (λ _. room))
            | inr d ↦
                let room : 13 + length (decimal size) ≤ len = rw value at d in
                cond_both (eqb size 1) (cond (eqb (n % 12 + 1) 1) 4 12) (cond (eqb (n % 12 + 1) 1) 10 13 + length (decimal size)) (λ x. x ≤ len)
                (λ _. cond_both (eqb (n % 12 + 1) 1) 4 12 (λ x. x ≤ len) (λ _. omega (arith, room)) (λ _. omega (arith, room)))
                (λ _. cond_both (eqb (n % 12 + 1) 1) 10 13 (λ x. x + length (decimal size) ≤ len) (λ _. omega (arith, room)) (λ _. room))
          ]
        ])
      ]
    ]

-- a text that reads as a period other than eternity has a form that makes it
read_form : (o : Option Form) (p : Span) → period_if_written o ≡ Ok p → (f : Form) × ((o ≡ Some f) × (period_of_form f ≡ Ok p))
read_form None p h = cc
read_form (Some f) p h = (f, (refl, h))

-- the forms that a text and a period share
pub record IsFormed (text : List ℕ) (p : Span) (f : Form) : Type 0 where
  pub made : Makes f p
  pub month : MakesMonth f p
  pub enough : IsLongEnough f (length text)

formed_text : (text : List ℕ) (p : Span) → size_of p ≤ 1200 → period_if_written (form_of_pieces (pieces 58 text)) ≡ Ok p → has_two_digits (pieces 45 (start_in (pieces 58 text))) ≡ true → (f : Form) × IsFormed text p f
formed_text text p most is two =
    let read = read_form (form_of_pieces (pieces 58 text)) p is in
    let made = makes read.0 p read.1.1 in
    let value : read.0.size ≡ size_of p = made.0.size in
    (read.0, record { made = made.0; month = made.1; enough = form_length text read.0 (omega (arith, value, most)) read.1.0 two })

formed_shortest : (p : Span) (text : List ℕ) → is_period p ≡ true
    → period_if_written (form_of_pieces (pieces 58 text)) ≡ Ok p → has_two_digits (pieces 45 (start_in (pieces 58 text))) ≡ true
    → length (text_of p) ≤ length text
formed_shortest eternity text h is two =
    let x = formed_text text eternity (omega arith) is two in
    let unit : x.0.unit ≡ Eternity = x.1.made.unit in
    absurd (elim x.1.enough [
      | inl m ↦ let other : Month ≡ Eternity = sym m.0 ∙ unit in cc
      | inr others ↦ elim others [
        | inl d ↦ let other : Day ≡ Eternity = sym d.0 ∙ unit in cc
        | inr y ↦ let other : Year ≡ Eternity = sym y.0 ∙ unit in cc
      ]
    ])
formed_shortest (months Day first size) text h is two = let none : false ≡ true = h in cc
formed_shortest (months Month first size) text h is two =
    let k : IsMonths Month first size = months_parts Month first size h in
    let w = is_written (first_of_month first) (first_real first k.from (omega (arith, k.to, k.months))) in
    let x = formed_text text (months Month first size) k.most is two in
    months_bound first size x.0 (length text) w x.1.made x.1.enough
formed_shortest (months Year first size) text h is two =
    let k : IsMonths Year first size = months_parts Year first size h in
    let w = is_written (first_of_month first) (first_real first k.from (omega (arith, k.to, k.months))) in
    let x = formed_text text (months Year first size) k.most is two in
    years_bound first size x.0 (length text) w x.1.made x.1.month x.1.enough
formed_shortest (months Eternity first size) text h is two = let none : false ≡ true = h in cc
formed_shortest (days first size) text h is two =
    let k : IsDays first size = days_parts first size h in
    let w = is_written (date_of first) (date_of_real first k.from (omega (arith, k.some, k.to))) in
    let x = formed_text text (days first size) k.most is two in
    days_bound first size x.0 (length text) w x.1.made x.1.enough

word_length : (text : List ℕ) → (is_word (codes "ETERNITY") text || is_word (codes "eternity") text) ≡ true → length text ≡ 8
word_length text is =
    elim (or_cases (is_word (codes "ETERNITY") text) (is_word (codes "eternity") text) is) [
      | inl capitals ↦ ap length ((bytes_decides text (codes "ETERNITY")).0 capitals)
      | inr small ↦ ap length ((bytes_decides text (codes "eternity")).0 small)
    ]

-- no text with months and days in two digits that reads as a period is shorter than its text
pub text_of-shortest : (p : Span) → is_period p ≡ true → IsShortest p (text_of p)
text_of-shortest p h other is two =
    elim (cases_Bool (is_word (codes "ETERNITY") other || is_word (codes "eternity") other)) [
      | inl word ↦
          let same : eternity ≡ p = ok_same eternity p (Ok eternity) refl (rw word at is) in
          rw (← same) (omega (arith, word_length other word))
      | inr formed ↦ formed_shortest p other h (rw formed at is) two
    ]
