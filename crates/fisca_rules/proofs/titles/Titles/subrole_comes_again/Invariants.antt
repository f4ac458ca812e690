use Rattle.std.proofs.Common.{Bool, drop}
use Rattle.std.specs.Prelude.{map}
use Rattle.fisca_rules.specs.Titles.{Notes, subrole}
use Rattle.fisca_rules.specs.declared.titles.Titles.{Titles}
use Rattle.fisca_rules.proofs.titles.Titles.subrole_comes_again.Given as goal

-- what is left decides
abbrev pub invariant-loop-key : goal.invariant-loop-key
invariant-loop-key l = (new : Titles) (b : Bool) → Notes l.self new (map subrole (drop l.key-index l.keys)) b → Notes l.initial.self new (map subrole l.keys) b
