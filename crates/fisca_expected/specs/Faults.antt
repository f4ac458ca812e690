-- Why expected values can't be read: their plain names and numbers, and the fault of a line.
use Rattle.std.specs.Prelude.{ℕ, List, codes}
use Rattle.fisca_expected.specs.declared.fault.OutputFault.{OutputFault}
use Rattle.fisca_expected.specs.declared.fault.OutputFault.TheVariants.{BadOutput, Memory}

abbrev pub number_of : OutputFault → ℕ
number_of (BadOutput line) = 1
number_of Memory = 2

abbrev pub name_of : OutputFault → List ℕ
name_of (BadOutput line) = codes "BadOutput"
name_of Memory = codes "Memory"
