use Rattle.std.proofs.Common.{◌∙◌, ap, map}
use Rattle.fisca_attributes.specs.Steps.AttributeForms as forms
use Rattle.fisca_attributes.specs.Values.{needed}
use Rattle.fisca_ast.specs.ModuleViews.{item}
use Rattle.fisca_declarations.specs.Steps.VariableForms.{enum_value}
use Rattle.fisca_declarations.proofs.needed.needed_enum.Goals as goal

pub returns-in-Some : goal.returns-in-Some
returns-in-Some c =
    c.enum_value.ensures ∙ ap (needed (enum_value c.args.declared.now)) (c.in-Some.ensures ∙ ap (λ t. forms.value_at t (map item c.args.items.now)) c.as_slice.ensures)
