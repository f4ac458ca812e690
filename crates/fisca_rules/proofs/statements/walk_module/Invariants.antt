use Rattle.std.proofs.Common.{◌≡◌, ◌++◌, length, map, List, Result}
use Rattle.std.specs.Vec.Iter.{into_iter_items, into_iter_len}
use Rattle.fisca_rules.specs.FirstPass.{Placed, placed_in}
use Rattle.fisca_rules.specs.declared.build_fault.BuildFault.{BuildFault}
use Rattle.fisca_ast.specs.ModuleViews.{statement}
use Rattle.fisca_rules.specs.Build.{Found}
use Rattle.fisca_rules.specs.Walk.{Reached}
use Rattle.fisca_rules.proofs.statements.walk_module.Given as goal

-- from where the module begins the statements so far lead here
abbrev pub invariant-loop-statement : goal.invariant-loop-statement
invariant-loop-statement l =
    ((names : Result (Unit {0}) BuildFault) (whole : Result Found BuildFault) (left : List Placed)
    → Reached l.declared l.initial.seen l.fn.found names whole (placed_in l.place (map statement l.fn.statements.items) ++ left)
    → Reached l.declared l.seen l.behind names whole (placed_in l.place (map statement (into_iter_items l.statement-iterator)) ++ left))
    × (into_iter_len l.statement-iterator ≡ length (into_iter_items l.statement-iterator))
