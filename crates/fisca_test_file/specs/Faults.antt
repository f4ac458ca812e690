-- Why a file of tests is refused: numbers, plain names, and the faults of a situation and of outputs.
use Rattle.std.specs.Prelude.{ℕ, List, codes, Result, Ok, Err}
use Rattle.fisca_inputs.specs.Faults.{name_of as situation_name}
use Rattle.fisca_inputs.specs.declared.fault.SituationFault.{SituationFault}
use Rattle.fisca_expected.specs.declared.fault.OutputFault.{OutputFault}
use Rattle.fisca_test_file.specs.declared.fault.TestFault.{TestFault}
use Rattle.fisca_test_file.specs.declared.fault.TestKind.{TestKind}
use Rattle.fisca_test_file.specs.declared.fault.TestKind.TheVariants.{BadTest, Situation, BadOutput, Memory, UseReform}
use Rattle.fisca_test_file.specs.Steps.Faults.{situation_fault, output_fault}

abbrev pub number_of : TestKind → ℕ
number_of BadTest = 1
number_of (Situation k) = 2
number_of BadOutput = 3
number_of Memory = 4
number_of UseReform = 5

-- of a situation the name of its own fault
abbrev pub name_of : TestKind → List ℕ
name_of BadTest = codes "BadTest"
name_of (Situation k) = situation_name k
name_of BadOutput = codes "BadOutput"
name_of Memory = codes "Memory"
name_of UseReform = codes "UseReform"

-- A fault of a situation

abbrev pub situation_told : {X : Type 0} → Result X SituationFault → Result X TestFault
situation_told (Ok x) = Ok x
situation_told (Err f) = Err (situation_fault f)

-- A fault of outputs

abbrev pub outputs_told : {X : Type 0} → Result X OutputFault → Result X TestFault
outputs_told (Ok x) = Ok x
outputs_told (Err f) = Err (output_fault f)
