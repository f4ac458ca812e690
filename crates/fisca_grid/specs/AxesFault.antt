-- The numbers and the plain names of the faults of axes.
use Rattle.std.specs.Prelude.{ℕ, List, codes}
use Rattle.fisca_grid.specs.declared.axes.AxesFault.{AxesFault}
use Rattle.fisca_grid.specs.declared.axes.AxesFault.TheVariants.{NoAxes, CountsDiffer, BadCount, TooLarge, UnknownVariable, BadIndex, AxisOverlap, PeriodMismatch, BadBound, Memory}

abbrev pub name_of : AxesFault → List ℕ
name_of NoAxes = codes "NoAxes"
name_of CountsDiffer = codes "CountsDiffer"
name_of BadCount = codes "BadCount"
name_of TooLarge = codes "TooLarge"
name_of UnknownVariable = codes "UnknownVariable"
name_of BadIndex = codes "BadIndex"
name_of AxisOverlap = codes "AxisOverlap"
name_of PeriodMismatch = codes "PeriodMismatch"
name_of BadBound = codes "BadBound"
name_of Memory = codes "Memory"

abbrev pub number_of : AxesFault → ℕ
number_of NoAxes = 1
number_of CountsDiffer = 2
number_of BadCount = 3
number_of TooLarge = 4
number_of UnknownVariable = 5
number_of BadIndex = 6
number_of AxisOverlap = 7
number_of PeriodMismatch = 8
number_of BadBound = 9
number_of Memory = 10
