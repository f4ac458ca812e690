use Rattle.std.proofs.Common.{Bool, drop}
use Rattle.fisca_rules.specs.Clashes.{titles}
use Rattle.fisca_rules.specs.Titles.{Notes}
use Rattle.fisca_rules.specs.declared.titles.Titles.{Titles}
use Rattle.fisca_rules.proofs.titles.are_confused.Given as goal

-- what is left decides
abbrev pub invariant-loop-role : goal.invariant-loop-role
invariant-loop-role l = (new : Titles) (b : Bool) → Notes l.titles new (titles (drop l.role-index l.roles)) b → Notes l.initial.titles new (titles l.roles) b
