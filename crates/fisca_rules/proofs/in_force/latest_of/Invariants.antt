use Rattle.std.proofs.Common.{◌≡◌, drop, map, option_map}
use Rattle.fisca_rules.specs.Views.{dated}
use Rattle.fisca_rules.specs.Steps.InForce.{in_force, latest_of}
use Rattle.fisca_rules.proofs.in_force.latest_of.Given as goal

-- what is found so far, and the formulas that are left
abbrev pub invariant-loop-formula : goal.invariant-loop-formula
invariant-loop-formula l = latest_of l.day (option_map (λ d. dated d.now) l.found) (map dated (drop l.formula-index l.formulas)) ≡ in_force l.day (map dated l.formulas)
