-- The steps of code behind `EntityForms`:
-- Entities and their roles, as they are written.
use Rattle.std.specs.Prelude.{ℕ, List, [], length, false, ◌==◌, if◌then◌else◌, Result, Ok, codes}
use Rattle.fisca_ast.specs.Steps.Groups.{bare}
use Rattle.fisca_ast.specs.Tree.{Tree, Argument, applied}
use Rattle.fisca_num.specs.Results.{and_then}
use Rattle.fisca_ast.specs.declared.fault.FormulaKind.{FormulaKind}
use Rattle.fisca_ast.specs.Modules.{Assigned}
use Rattle.fisca_symbols.specs.declared.entity.Entity.{Entity}
use Rattle.fisca_symbols.specs.declared.role.Role.{Role}
use Rattle.fisca_attributes.specs.Values.{bad_attribute, items, list_value, Field, needed, perhaps, or_else}
use Rattle.fisca_attributes.specs.Steps.Values.{text_value, truth_value, count_value, texts_value, fields_from, value_of}
use Rattle.fisca_attributes.specs.EntityForms.{role_labels, mapped, entity_labels, same}

abbrev pub role_of_fields : List Field → Result Role FormulaKind
role_of_fields fs =
    and_then (needed text_value (value_of (codes "key") fs)) (λ key.
    and_then (perhaps text_value (value_of (codes "plural") fs)) (λ plural.
    and_then (perhaps text_value (value_of (codes "label") fs)) (λ label.
    and_then (perhaps text_value (value_of (codes "doc") fs)) (λ doc.
    and_then (perhaps count_value (value_of (codes "max") fs)) (λ max.
    and_then (or_else [] texts_value (value_of (codes "subroles") fs)) (λ subroles.
    Ok (record { key = key; plural = plural; label = label; doc = doc; max = max; subroles = subroles })))))))

-- a role: a map `{"key": "..", ..}`
abbrev pub role_value : Tree → Result Role FormulaKind
role_value e = and_then (mapped e) (λ xs. and_then (fields_from role_labels [] xs) role_of_fields)

-- a group has at least one role, the persons none
abbrev pub if_roles_fit : Entity → Result Entity FormulaKind
if_roles_fit e = if same e.is_person (length e.roles == 0) then Ok e else bad_attribute

abbrev pub entity_of_fields : List ℕ → List Field → Result Entity FormulaKind
entity_of_fields constant fs =
    and_then (needed text_value (value_of (codes "key") fs)) (λ key.
    and_then (needed text_value (value_of (codes "plural") fs)) (λ plural.
    and_then (perhaps text_value (value_of (codes "label") fs)) (λ label.
    and_then (perhaps text_value (value_of (codes "doc") fs)) (λ doc.
    and_then (or_else false truth_value (value_of (codes "is_person") fs)) (λ is_person.
    and_then (or_else [] (list_value role_value) (value_of (codes "roles") fs)) (λ roles.
    if_roles_fit (record { constant = constant; key = key; plural = plural; label = label; doc = doc; is_person = is_person; roles = roles })))))))

abbrev pub arguments_of : Tree → List Argument
arguments_of (applied s f xs) = items xs
arguments_of e = []

-- `NAME = build_entity(..)`, perhaps in parentheses
abbrev pub entity_of : Assigned → Result Entity FormulaKind
entity_of a = and_then (fields_from entity_labels [] (arguments_of (bare a.value))) (entity_of_fields a.name)
