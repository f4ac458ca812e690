-- Why a run file or a file of `fisca calc` is refused: numbers, plain names, and the faults of a situation and of axes.
use Rattle.std.specs.Prelude.{ℕ, List, codes, Result, Ok, Err}
use Rattle.fisca_grid.specs.AxesFault.{name_of as axes_name}
use Rattle.fisca_inputs.specs.Faults.{name_of as situation_name}
use Rattle.fisca_inputs.specs.declared.fault.SituationFault.{SituationFault}
use Rattle.fisca_columns.specs.declared.fault.RunFileFault.{RunFileFault}
use Rattle.fisca_columns.specs.declared.fault.RunFileKind.{RunFileKind}
use Rattle.fisca_columns.specs.declared.fault.RunFileKind.TheVariants.{BadKey, Situation, Axes, BadColumn, BadCondition, Memory, BadNeutral}

abbrev pub number_of : RunFileKind → ℕ
number_of BadKey = 1
number_of (Situation k) = 2
number_of (Axes f) = 3
number_of BadColumn = 4
number_of BadCondition = 5
number_of Memory = 6
number_of BadNeutral = 7

-- of a situation and of axes the name of their own fault
abbrev pub name_of : RunFileKind → List ℕ
name_of BadKey = codes "BadKey"
name_of (Situation k) = situation_name k
name_of (Axes f) = axes_name f
name_of BadColumn = codes "BadColumn"
name_of BadCondition = codes "BadCondition"
name_of Memory = codes "Memory"
name_of BadNeutral = codes "BadNeutral"

abbrev pub fault_at : {X : Type 0} → ℕ → RunFileKind → Result X RunFileFault
fault_at line k = Err (record { line = line; kind = k })

abbrev pub told : {X : Type 0} → Result X SituationFault → Result X RunFileFault
told (Ok x) = Ok x
told (Err f) = fault_at f.line (Situation f.kind)
