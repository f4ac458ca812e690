use Rattle.std.proofs.Common.{◌≡◌, [], map, drop}
use Rattle.fisca_ast.specs.Views.{argument_view}
use Rattle.fisca_attributes.specs.Fields.{labels, field_view}
use Rattle.fisca_attributes.specs.Steps.Values.{fields_from}
use Rattle.fisca_attributes.proofs.fields.read_fields.Given as goal

abbrev pub invariant-loop-argument : goal.invariant-loop-argument
invariant-loop-argument l = fields_from (labels l.form) (map field_view l.found.items) (map argument_view (drop l.argument-index l.items)) ≡ fields_from (labels l.form) [] (map argument_view l.items)
