use Rattle.fisca_rules.specs.Rules.{known_by}
use Rattle.fisca_simulation.specs.Simulations.{sources}
use Rattle.fisca_simulation.proofs.SourceLookups.{sources_sound}
use Rattle.fisca_simulation.proofs.ValueTypes.{answers_fit}
use Rattle.fisca_simulation.proofs.source_laws.values_are_of_their_types.Goals as goal

pub returns : goal.returns
returns c m safe given = answers_fit (known_by m.rules) (sources m) (sources_sound m safe given)
