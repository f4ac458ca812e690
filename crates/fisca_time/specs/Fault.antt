-- The numbers of the faults.
use Rattle.std.specs.Prelude.{ℕ}
use Rattle.fisca_time.specs.declared.fault.TimeFault.{TimeFault}
use Rattle.fisca_time.specs.declared.fault.TimeFault.TheVariants.{BadText, OutOfRange, NoSubperiods, Memory}

abbrev pub number_of : TimeFault → ℕ
number_of BadText = 1
number_of OutOfRange = 2
number_of NoSubperiods = 3
number_of Memory = 4
