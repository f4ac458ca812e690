use Rattle.std.proofs.Common.{◌≡◌, map, drop}
use Rattle.fisca_ast.specs.Views.{argument_view}
use Rattle.fisca_attributes.specs.Steps.EntityForms.{role_value}
use Rattle.fisca_attributes.specs.Values.{each, each_behind}
use Rattle.fisca_attributes.proofs.entity_forms.each_role.Given as goal

abbrev pub invariant-loop-argument : goal.invariant-loop-argument
invariant-loop-argument l = each_behind role_value l.roles.items (map argument_view (drop l.argument-index l.items)) ≡ each role_value (map argument_view l.items)
