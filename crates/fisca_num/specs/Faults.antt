-- The plain names of the faults, and their numbers.
use Rattle.std.specs.Prelude.{ℕ, List, codes}
use Rattle.fisca_num.specs.declared.faults.NumFault.{NumFault}
use Rattle.fisca_num.specs.declared.faults.NumFault.TheVariants.{TooWide, ZeroDivisor, NotANumber, Memory}

abbrev pub name_of : NumFault → List ℕ
name_of TooWide = codes "TooWide"
name_of ZeroDivisor = codes "ZeroDivisor"
name_of NotANumber = codes "NotANumber"
name_of Memory = codes "Memory"

abbrev pub number_of : NumFault → ℕ
number_of TooWide = 1
number_of ZeroDivisor = 2
number_of NotANumber = 3
number_of Memory = 4
