use Rattle.fisca_writer.proofs.Ranged.{more_law, end_law, fault_law}
use Rattle.fisca_writer.proofs.law.runs_continue.Goals as goal

pub returns : goal.returns
returns g c = record { more = more_law; ended = end_law; faulted = fault_law }
