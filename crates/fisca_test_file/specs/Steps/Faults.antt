-- The steps of code behind `Faults`:
-- Why a file of tests is refused: numbers, plain names, and the faults of a situation and of outputs.
use Rattle.std.specs.Prelude.{ℕ, Result, Err}
use Rattle.fisca_inputs.specs.declared.fault.SituationFault.{SituationFault}
use Rattle.fisca_inputs.specs.declared.fault.SituationKind.{SituationKind}
use Rattle.fisca_inputs.specs.declared.fault.SituationKind.TheVariants as situation
use Rattle.fisca_expected.specs.declared.fault.OutputFault.{OutputFault}
use Rattle.fisca_expected.specs.declared.fault.OutputFault.TheVariants as output
use Rattle.fisca_test_file.specs.declared.fault.TestFault.{TestFault}
use Rattle.fisca_test_file.specs.declared.fault.TestKind.{TestKind}
use Rattle.fisca_test_file.specs.declared.fault.TestKind.TheVariants.{Situation, BadOutput, Memory}

abbrev pub at_line : ℕ → TestKind → TestFault
at_line line k = record { line = line; kind = k }

abbrev pub fault_at : {X : Type 0} → ℕ → TestKind → Result X TestFault
fault_at line k = Err (at_line line k)

-- A fault of a situation

abbrev pub kind_of : SituationKind → TestKind
kind_of situation.UnknownEntity = Situation situation.UnknownEntity
kind_of situation.UnknownVariable = Situation situation.UnknownVariable
kind_of situation.UnknownPerson = Situation situation.UnknownPerson
kind_of situation.PersonTwice = Situation situation.PersonTwice
kind_of situation.RoleFull = Situation situation.RoleFull
kind_of situation.BadValue = Situation situation.BadValue
kind_of situation.PeriodMismatch = Situation situation.PeriodMismatch
kind_of situation.InconsistentInput = Situation situation.InconsistentInput
kind_of situation.TooMany = Situation situation.TooMany
kind_of situation.Memory = Memory

abbrev pub situation_fault : SituationFault → TestFault
situation_fault f = at_line f.line (kind_of f.kind)

-- A fault of outputs

abbrev pub output_fault : OutputFault → TestFault
output_fault (output.BadOutput line) = at_line line BadOutput
output_fault output.Memory = at_line 0 Memory
