-- How definitions see simulations.
use Rattle.fisca_rules.specs.Views.{rule_set}
use Rattle.fisca_situations.specs.Steps.Views.{situation}
use Rattle.fisca_simulation.specs.Simulations as simulations
use Rattle.fisca_simulation.specs.declared.simulation.Simulation.{Simulation}

abbrev pub simulation : Simulation → simulations.Simulation
simulation s = record { rules = rule_set s.rules.now; situation = situation s.situation.now; neutral = s.neutral.now }
