use Rattle.std.proofs.Common.{◌≡◌, map, drop}
use Rattle.fisca_ast.specs.Views.{argument_view}
use Rattle.fisca_attributes.specs.Values.{each, each_behind}
use Rattle.fisca_attributes.specs.Steps.Values.{text_value}
use Rattle.fisca_attributes.proofs.lists.each_text.Given as goal

abbrev pub invariant-loop-argument : goal.invariant-loop-argument
invariant-loop-argument l = each_behind text_value l.texts.items (map argument_view (drop l.argument-index l.items)) ≡ each text_value (map argument_view l.items)
