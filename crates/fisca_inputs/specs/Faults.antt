-- The numbers and the plain names of the kinds of faults, and the fault of a line.
use Rattle.std.specs.Prelude.{ℕ, List, codes}
use Rattle.fisca_inputs.specs.declared.fault.SituationFault.{SituationFault}
use Rattle.fisca_inputs.specs.declared.fault.SituationKind.{SituationKind}
use Rattle.fisca_inputs.specs.declared.fault.SituationKind.TheVariants.{UnknownEntity, UnknownVariable, UnknownPerson, PersonTwice, RoleFull, BadValue, PeriodMismatch, InconsistentInput, TooMany, Memory}

abbrev pub name_of : SituationKind → List ℕ
name_of UnknownEntity = codes "UnknownEntity"
name_of UnknownVariable = codes "UnknownVariable"
name_of UnknownPerson = codes "UnknownPerson"
name_of PersonTwice = codes "PersonTwice"
name_of RoleFull = codes "RoleFull"
name_of BadValue = codes "BadValue"
name_of PeriodMismatch = codes "PeriodMismatch"
name_of InconsistentInput = codes "InconsistentInput"
name_of TooMany = codes "TooMany"
name_of Memory = codes "Memory"

abbrev pub number_of : SituationKind → ℕ
number_of UnknownEntity = 1
number_of UnknownVariable = 2
number_of UnknownPerson = 3
number_of PersonTwice = 4
number_of RoleFull = 5
number_of BadValue = 6
number_of PeriodMismatch = 7
number_of InconsistentInput = 8
number_of TooMany = 9
number_of Memory = 10

abbrev pub at_line : ℕ → SituationKind → SituationFault
at_line n k = record { line = n; kind = k }
