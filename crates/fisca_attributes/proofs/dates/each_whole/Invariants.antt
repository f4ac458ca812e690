use Rattle.std.proofs.Common.{◌≡◌, map, drop}
use Rattle.fisca_ast.specs.Views.{argument_view}
use Rattle.fisca_attributes.specs.Values.{each, each_behind}
use Rattle.fisca_attributes.specs.Steps.Values.{whole_value}
use Rattle.fisca_attributes.proofs.dates.each_whole.Given as goal

abbrev pub invariant-loop-argument : goal.invariant-loop-argument
invariant-loop-argument l = each_behind whole_value l.found.items (map argument_view (drop l.argument-index l.items)) ≡ each whole_value (map argument_view l.items)
