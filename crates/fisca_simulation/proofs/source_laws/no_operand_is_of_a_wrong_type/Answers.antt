use Rattle.fisca_rules.specs.Rules.{known_by}
use Rattle.fisca_simulation.specs.Simulations.{sources}
use Rattle.fisca_simulation.proofs.SourceLookups.{sources_sound}
use Rattle.fisca_simulation.proofs.ValueTypes.{answers_move}
use Rattle.fisca_simulation.proofs.source_laws.no_operand_is_of_a_wrong_type.Goals as goal

pub returns : goal.returns
returns c m safe given = answers_move (known_by m.rules) (sources m) (sources_sound m safe given)
