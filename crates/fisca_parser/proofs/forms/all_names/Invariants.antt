use Rattle.std.proofs.Common.{◌≡◌, drop}
use Rattle.std.specs.List.{list_all}
use Rattle.fisca_ast.specs.Views.{argument_view}
use Rattle.fisca_parser.specs.Steps.Forms.{is_any_name}
use Rattle.fisca_parser.proofs.forms.all_names.Given as goal

abbrev pub invariant-loop-item : goal.invariant-loop-item
invariant-loop-item l = list_all (λ a. is_any_name (argument_view a)) l.items ≡ list_all (λ a. is_any_name (argument_view a)) (drop l.item-index l.items)
