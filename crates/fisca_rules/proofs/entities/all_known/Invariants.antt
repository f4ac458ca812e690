use Rattle.std.proofs.Common.{◌≡◌, map, drop}
use Rattle.fisca_ast.specs.Views.{argument_view}
use Rattle.fisca_rules.specs.Steps.Build.{all_known}
use Rattle.fisca_rules.proofs.entities.all_known.Given as goal

abbrev pub invariant-loop-argument : goal.invariant-loop-argument
invariant-loop-argument l = all_known l.declared (map argument_view (drop l.argument-index l.items)) ≡ all_known l.declared (map argument_view l.items)
