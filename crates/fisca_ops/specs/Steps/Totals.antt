-- The steps of code behind `Totals`:
-- Totals over persons: what they begin with, and what one person more makes of them.
use Rattle.std.specs.Prelude.{false, true, Option, Some, None}
use Rattle.fisca_num.specs.Number.{zero_number}
use Rattle.fisca_typing.specs.declared.operations.Total.{Total}
use Rattle.fisca_typing.specs.declared.operations.Total.TheVariants as total
use Rattle.fisca_model.specs.Values.{Value, number, bool}

-- the lowest and the highest begin with the first person's
abbrev pub beginning : Total → Option Value
beginning total.Sum = Some (number zero_number)
beginning total.Min = None
beginning total.Max = None
beginning total.Any = Some (bool false)
beginning total.All = Some (bool true)
