-- The steps of code behind `Questions`:
-- Questions for variables, by their arguments.
use Rattle.std.specs.Borrow.{Bor}
use Rattle.std.specs.Prelude.{ℕ, List, Option, Some, None, Result, Ok, if◌then◌else◌}
use Rattle.fisca_ir.specs.Views.{thing}
use Rattle.fisca_ir.specs.declared.thing.Thing.{Thing as HeldThing}
use Rattle.fisca_ast.specs.declared.fault.FormulaKind.{FormulaKind}
use Rattle.fisca_model.specs.declared.role_place.RolePlace.{RolePlace}
use Rattle.fisca_typing.specs.declared.kinds.Level.{Level}
use Rattle.fisca_typing.specs.Asks.{asked, is_options, is_positional, role_by}
use Rattle.fisca_typing.specs.Calls.{CallArgument}
use Rattle.fisca_model.specs.Tables.{Tables}
use Rattle.fisca_typing.specs.Things.{Thing, Relation}
use Rattle.fisca_typing.specs.Types.{bad_type}

-- options stand behind their keyword
abbrev pub with_options : Tables → Relation → Level → CallArgument → CallArgument → Option CallArgument → Result Thing FormulaKind
with_options c r l v p None = asked c r l v p None
with_options c r l v p (Some o) = if is_options o.keyword then asked c r l v p (Some o.thing) else bad_type

-- a variable and a period by position
abbrev pub asked_by : Tables → Relation → Level → CallArgument → CallArgument → Option CallArgument → Result Thing FormulaKind
asked_by c r l v p o =
    if is_positional v.keyword then (if is_positional p.keyword then with_options c r l v p o else bad_type) else bad_type

-- a role, if there is one, behind its keyword
abbrev pub role_given : ℕ → Option (Bor (List ℕ) × HeldThing) → Result (Option RolePlace) FormulaKind
role_given entity None = Ok None
role_given entity (Some r) = role_by entity r.0.now (thing r.1)
