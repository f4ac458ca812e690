-- The numbers and the plain names of the faults of a run, and the numbers of those of sinks.
use Rattle.std.specs.Prelude.{ℕ, List, codes}
use Rattle.fisca_writer.specs.declared.fault.RunFault.{RunFault}
use Rattle.fisca_writer.specs.declared.fault.RunFault.TheVariants as fault
use Rattle.fisca_writer.specs.declared.sink.SinkFault.{SinkFault}
use Rattle.fisca_writer.specs.declared.sink.SinkFault.TheVariants as sink

-- the plain name of a fault
abbrev pub name_of : {F : Type 0} → RunFault F → List ℕ
name_of fault.BadPosition = codes "BadPosition"
name_of (fault.Eval position x) = codes "Eval"
name_of (fault.Write position) = codes "Write"
name_of (fault.Memory position) = codes "Memory"

abbrev pub number_of : {F : Type 0} → RunFault F → ℕ
number_of fault.BadPosition = 1
number_of (fault.Eval position x) = 2
number_of (fault.Write position) = 3
number_of (fault.Memory position) = 4

abbrev pub sink_number : SinkFault → ℕ
sink_number sink.Write = 1
sink_number sink.Memory = 2
