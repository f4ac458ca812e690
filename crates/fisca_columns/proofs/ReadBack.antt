-- The column of a key that is asked for is read as that key.
use Rattle.std.proofs.Common.{◌≡◌, ℕ, ◌<◌, ◌^◌, IsTrue, true, List, Option, Some, None, Ok, refl, ap, ◌∙◌, arith}
use Rattle.std.specs.Prelude.{if◌then◌else◌, option_map, option_and_then}
use Rattle.std.specs.Fmt.{decimal}
use Rattle.std.specs.Result.{result_ok}
use Rattle.fisca_inputs.specs.Entries.{key}
use Rattle.fisca_model.specs.declared.key.Key.{Key}
use Rattle.fisca_model.specs.Periods.{fits, key_period}
use Rattle.fisca_groups.specs.Lookup.{count_at}
use Rattle.fisca_groups.specs.declared.entity_members.EntityMembers.{EntityMembers}
use Rattle.fisca_time.specs.Period.{Span, is_period}
use Rattle.fisca_time.specs.PeriodText.{period_of_text, text_of as period_text}
use Rattle.fisca_time.specs.declared.unit.Unit.{Unit}
use Rattle.fisca_model.specs.Tables.{Tables, Variable}
use Rattle.fisca_columns.proofs.Backwards.{clear_decimal, place_of_decimal}
use Rattle.fisca_columns.proofs.Readings.{written_once}
use Rattle.fisca_columns.specs.AskedColumns.{IsAsked, column_text}
use Rattle.fisca_columns.specs.Columns.{column_of, if_usable, key_at, key_of_parts}
use Rattle.fisca_columns.specs.Steps.Columns.{asked_at, period_at}
use Rattle.fisca_columns.specs.Written.{Parts, text_of_parts}
use Rattle.fisca_columns.specs.Steps.Written.{parts_of}

period_read : (unit : Unit) (default : Option Span) (p : Span) → period_of_text (period_text p) ≡ Ok p → fits unit p ≡ true → key_period unit p ≡ p
    → period_at unit default (Some (period_text p)) ≡ Some p
period_read unit default p law fit own =
    ap (λ r. option_and_then (asked_at unit) (result_ok r)) law
    ∙ ap (λ b. if b then Some (key_period unit p) else None) fit ∙ ap Some own

abbrev parts_for : List ℕ → Key → Parts
parts_for name k = record { name = name; index = Some (decimal k.member); period = Some (period_text k.period) }

key_read : (c : Tables) (ms : List EntityMembers) (default : Option Span) (k : Key) (x : Variable) → IsAsked c ms k x
    → period_of_text (period_text k.period) ≡ Ok k.period → key_of_parts c ms default (parts_for x.name k) ≡ Some k
key_read c ms default k x a law =
    let w : Parts = parts_for x.name k in
    let small : k.member < 2 ^ 64 = omega (arith, a.word) in
    ap (λ o. option_and_then (key_at ms default w) (option_and_then if_usable o)) a.found
    ∙ ap (λ b. option_and_then (key_at ms default w) (if b then Some (k.variable, x) else None)) a.usable
    ∙ ap (option_and_then (λ m. option_map (key k.variable m) (period_at x.definition_period default w.period))) (place_of_decimal (count_at ms x.entity) k.member a.member small)
    ∙ ap (option_map (key k.variable k.member)) (period_read x.definition_period default k.period law a.fit a.own)

pub read_back : ((p : Span) → IsTrue (is_period p) → period_of_text (period_text p) ≡ Ok p)
    → (c : Tables) (ms : List EntityMembers) (default : Option Span) (k : Key) (x : Variable) → IsAsked c ms k x
    → column_of c ms default (column_text x.name k) ≡ Some k
read_back law c ms default k x a =
    let small : k.member < 2 ^ 64 = omega (arith, a.word) in
    let w : Parts = parts_for x.name k in
    let whole : parts_of (text_of_parts w) ≡ w =
    (written_once (text_of_parts w) w).0 (record { whole = refl; name_ends = a.no_number_sign; name_has_no_period = a.no_at_sign; index_ends = clear_decimal k.member small }) in
    ap (key_of_parts c ms default) whole ∙ key_read c ms default k x a (law k.period a.period)
