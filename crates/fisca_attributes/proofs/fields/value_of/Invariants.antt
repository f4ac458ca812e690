use Rattle.std.proofs.Common.{◌≡◌, map, drop}
use Rattle.fisca_attributes.specs.Fields.{field_view}
use Rattle.fisca_attributes.specs.Steps.Values.{value_of}
use Rattle.fisca_attributes.proofs.fields.value_of.Given as goal

abbrev pub invariant-loop-field : goal.invariant-loop-field
invariant-loop-field l = value_of l.label (map field_view (drop l.field-index l.fields)) ≡ value_of l.label (map field_view l.fields)
