-- Fields, as the reader has them.
use Rattle.std.specs.Prelude.{ℕ, List}
use Rattle.fisca_ast.specs.Views.{tree}
use Rattle.fisca_attributes.specs.declared.fields.Field.{Field as Found}
use Rattle.fisca_attributes.specs.declared.fields.Form.{Form}
use Rattle.fisca_attributes.specs.declared.fields.Form.TheVariants as form
use Rattle.fisca_attributes.specs.EntityForms.{role_labels, entity_labels}
use Rattle.fisca_attributes.specs.Values.{Field}

abbrev pub labels : Form → List (List ℕ)
labels form.Role = role_labels
labels form.Entity = entity_labels

abbrev pub field_view : Found → Field
field_view f = record { label = f.label; value = tree f.value.now }
