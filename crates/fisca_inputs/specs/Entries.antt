-- Values by keys: a finite map, as the list of its entries.
use Rattle.std.specs.Prelude.{ℕ, Bool, ◌==◌, ◌&&◌, List, Option}
use Rattle.std.specs.Map.{lookup}
use Rattle.std.specs.Ordering.{eq_by_cmp}
use Rattle.fisca_time.specs.Period.{Span, span_cmp}
use Rattle.fisca_model.specs.declared.key.Key.{Key}
use Rattle.fisca_model.specs.declared.value.Value.{Value}

abbrev pub key : ℕ → ℕ → Span → Key
key x m p = record { variable = x; member = m; period = p }

abbrev pub same_key : Key → Key → Bool
same_key a b = (a.variable == b.variable) && ((a.member == b.member) && eq_by_cmp span_cmp a.period b.period)

-- each key stands in it once
abbrev pub Entries : Type 0
Entries = List (Key × Value)

abbrev pub value_at : Entries → Key → Option Value
value_at es k = lookup (same_key k) es

abbrev pub limit : ℕ
limit = 100_000
