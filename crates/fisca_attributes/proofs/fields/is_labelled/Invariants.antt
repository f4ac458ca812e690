use Rattle.std.proofs.Common.{◌≡◌, map, drop}
use Rattle.fisca_attributes.specs.Fields.{field_view}
use Rattle.fisca_attributes.specs.Steps.Values.{is_labelled}
use Rattle.fisca_attributes.proofs.fields.is_labelled.Given as goal

abbrev pub invariant-loop-field : goal.invariant-loop-field
invariant-loop-field l = is_labelled l.label (map field_view (drop l.field-index l.fields)) ≡ is_labelled l.label (map field_view l.fields)
