-- What texts of periods say.
use Rattle.std.proofs.Common.{◌≡◌, ℕ, ◌+◌, ◌<◌, min, List, [], ◌∷◌, length, arith, refl, Option, Some, None, Err, Bool, true, false, cond, ◌∙◌, sym, inl, inr}
use Rattle.std.proofs.Math.Dec.{eqb, leb}
use Rattle.std.specs.List.{count_by}
use Rattle.std.specs.Str.Parse.{digits_value}
use Rattle.std.specs.Option.{option_map}
use Rattle.std.proofs.lemmas.Bool.{cases_Bool, cases_lt, and_right, lt-leb}
use Rattle.std.proofs.lemmas.List.Splits.{length-slice_split}
use Rattle.fisca_time.specs.Instant.{is_between, is_on_calendar}
use Rattle.fisca_time.specs.PeriodText.{start_of_text, start_of_pieces, unit_named, form_in, form_of_start, form_of_pieces, is_short_numeral, is_size_text, with_size, with_limit, date_in, period_of_form, period_if_written}
use Rattle.fisca_time.specs.Pieces.{pieces}
use Rattle.fisca_time.specs.declared.fault.TimeFault.TheVariants.{OutOfRange}
use Rattle.fisca_time.specs.declared.form.Form.{Form}
use Rattle.fisca_time.specs.declared.unit.Unit.{Unit}
use Rattle.fisca_time.proofs.Splits.{pieces-digits, short_digits, start_of_pieces-day, form_of_pieces-size}

-- a start of a year and a month, and of a year, a month and a day
pub start_of_text-month : (text year rest : List ℕ) → pieces 45 text ≡ year ∷ pieces 45 rest → pieces 45 rest ≡ rest ∷ [] → start_of_text text ≡ start_of_pieces (year ∷ rest ∷ [])
start_of_text-month text year rest parts none = rw (parts, none) refl

-- what is a month by itself has no dash
pub one_piece : (rest : List ℕ) (o : Option ℕ) (month : ℕ) → o ≡ cond (is_short_numeral rest) (Some (digits_value 10 rest)) None → o ≡ Some month → pieces 45 rest ≡ rest ∷ []
one_piece rest o month value is =
    elim (cases_Bool (is_short_numeral rest)) [
      | inl short ↦ pieces-digits 45 rest refl (short_digits rest short)
      | inr not_short ↦ let none : o ≡ None = rw not_short at value in cc
    ]

pub start_of_text-day : (text year rest month day : List ℕ) → pieces 45 text ≡ year ∷ pieces 45 rest → pieces 45 rest ≡ month ∷ pieces 45 day
    → start_of_text text ≡ start_of_pieces (year ∷ month ∷ day ∷ [])
start_of_text-day text year rest month day parts more = rw (parts, more) (start_of_pieces-day year month day)

-- a unit, a start and a size
pub form_of_text-size : (text word rest start size : List ℕ) → pieces 58 text ≡ word ∷ pieces 58 rest → pieces 58 rest ≡ start ∷ pieces 58 size
    → form_of_pieces (pieces 58 text) ≡ form_of_pieces (word ∷ start ∷ size ∷ [])
form_of_text-size text word rest start size first second = rw (first, second) (form_of_pieces-size word start size)

-- nothing is written under a word that is no unit
pub form_of_text-unknown : (text word rest : List ℕ) → pieces 58 text ≡ word ∷ pieces 58 rest → unit_named word ≡ None → form_of_pieces (pieces 58 text) ≡ None
form_of_text-unknown text word rest parts unknown = rw parts (no_form (pieces 58 rest) (length-slice_split (λ c. eqb c 58) rest))
  where
    no_start : (start : List ℕ) → form_of_start word start ≡ None
    no_start start = rw unknown refl

    no_form : (ps : List (List ℕ)) → length ps ≡ count_by (λ c. eqb c 58) rest + 1 → form_of_pieces (word ∷ ps) ≡ None
    no_form [] some = absurd (omega arith)
    no_form (p ∷ []) some = no_start p
    no_form (p ∷ q ∷ []) some = rw unknown (no_size (is_size_text q))
      where
        no_size : (b : Bool) → cond {A = Option Form} b None None ≡ None
        no_size true = refl
        no_size false = refl
    no_form (p ∷ q ∷ r ∷ ps) some = refl

-- a text with a size, from what its parts say
pub sized_form : (word start size : List ℕ) (unit : Unit) (lone form : Form) (n : ℕ) → Some unit ≡ unit_named word → Some lone ≡ start_of_text start → Some form ≡ form_in unit lone
    → is_size_text size ≡ true → n ≡ min 10_000 (digits_value 10 size)
    → Some (record form { size = n }) ≡ option_map (with_limit 10_000) (form_of_pieces (word ∷ start ∷ size ∷ []))
sized_form word start size unit lone form n u l f is e = rw (is, ← u, ← l, ← f, e) refl

too_large : (form : Form) → 1200 < form.size → period_of_form form ≡ Err OutOfRange
too_large form large =
    let outside = and_right (leb 1 form.size) (leb form.size 1200) (lt-leb form.size 1200 large) in
    rw (and_right (is_on_calendar (date_in form)) (is_between 1 1200 form.size) outside) refl

-- a limit above the largest size does not change what is a period
limited_form : (form : Form) → period_of_form (with_limit 10_000 form) ≡ period_of_form form
limited_form form =
    elim (cases_lt 10_000 form.size) [
      | inl large ↦
          let capped : min 10_000 form.size ≡ 10_000 = omega arith in
          rw capped (too_large (with_size 10_000 form) (omega arith) ∙ sym (too_large form (omega arith)))
      | inr small ↦ let same : min 10_000 form.size ≡ form.size = omega arith in rw same refl
    ]

-- what the code reads, with a limit on the size, is a period where what the text says is one
pub period_of_limited : (o : Option Form) (form : Form) → Some form ≡ option_map (with_limit 10_000) o → period_of_form form ≡ period_if_written o
period_of_limited None form is = absurd (cc)
period_of_limited (Some written) form is = let same : form ≡ with_limit 10_000 written = cc in rw same (limited_form written)
