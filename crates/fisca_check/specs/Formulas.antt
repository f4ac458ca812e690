-- The formulas of the theory that those in memory stand for.
use Rattle.std.specs.Prelude.{◌≡◌, ◌≢◌, map, Result, Ok, Err}
use Rattle.fisca_ast.specs.Views.{tree}
use Rattle.fisca_check_calls.specs.Locals.{sizes}
use Rattle.fisca_ir.specs.Views.{node}
use Rattle.fisca_num.specs.Results.{and_then}
use Rattle.fisca_ast.specs.declared.module.Assignment.{Assignment}
use Rattle.fisca_ast.specs.declared.fault.FormulaKind.{FormulaKind}
use Rattle.fisca_ast.specs.declared.fault.FormulaKind.TheVariants.{Memory}
use Rattle.fisca_model.specs.declared.value_type.ValueType.{ValueType}
use Rattle.fisca_typing.specs.Formulas as typing
use Rattle.fisca_typing.specs.Nodes.{Node}
use Rattle.fisca_typing.specs.Things.{Typed}
use Rattle.fisca_check.specs.declared.formula.TypedFormula.{TypedFormula}
use Rattle.fisca_check.specs.declared.formula.FormulaRefusal.{FormulaRefusal}
use Rattle.fisca_check.specs.declared.formula.Scope.{Scope}
use Rattle.fisca_check.specs.Views.{names}

abbrev pub scope : Scope → typing.Scope
scope s = record { names = names s.names; sizes = sizes s.names.locals; values = map node s.values.items }

abbrev pub assigned : Assignment → typing.Assigned
assigned a = record { name = a.name; value = tree a.value }

abbrev pub formula_view : TypedFormula → typing.Formula
formula_view f = record { values = map node f.values.items; result = node f.result }

abbrev pub refusal : FormulaRefusal → typing.RefusedFormula
refusal r = record { place = r.place; kind = r.kind }

-- what this outcome says, seen in this way, or its refusal; or else memory ran out
abbrev pub Tells : {X Y : Type 0} → (X → Y) → Result Y typing.RefusedFormula → Result X FormulaRefusal → Type 0
Tells view outcome (Ok x) = outcome ≡ Ok (view x)
Tells view outcome (Err r) = r.kind ≢ Memory → outcome ≡ Err (refusal r)

-- a value that a variable of this type takes
abbrev pub returned_as : ValueType → Typed → Result Node FormulaKind
returned_as t v = and_then (typing.of_type t v) (λ u. typing.of_entity u.level u.node)
