-- The conditions of a filter: a column, one of `>=`, `<=`, `==`, `!=`, `>`, `<`, and a constant.
use Rattle.std.specs.Prelude.{ℕ, Option, Some, None, Result, Ok}
use Rattle.fisca_columns.specs.Faults.{fault_at}
use Rattle.fisca_columns.specs.declared.fault.RunFileFault.{RunFileFault}
use Rattle.fisca_columns.specs.declared.fault.RunFileKind.TheVariants.{BadCondition}
use Rattle.fisca_rows.specs.declared.condition.Condition.{Condition}

-- Conditions

abbrev pub condition_or_fault : ℕ → Option Condition → Result Condition RunFileFault
condition_or_fault line None = fault_at line BadCondition
condition_or_fault line (Some x) = Ok x
