use Rattle.std.proofs.Common.{◌≡◌, drop}
use Rattle.std.specs.Prelude.{map}
use Rattle.fisca_ast.specs.Views.{tree}
use Rattle.fisca_typing.specs.Formulas as typing
use Rattle.fisca_check.specs.Formulas.{assigned, scope}
use Rattle.fisca_check.specs.Views.{names}
use Rattle.fisca_check.proofs.formulas.formula_of.Given as goal

abbrev pub invariant-loop-place : goal.invariant-loop-place
invariant-loop-place l =
    (typing.formula_of (names l.fn.names) l.value_type (map assigned l.locals) (tree l.returned)
    ≡ typing.formula_from l.place (scope l.scope) l.value_type (map assigned (drop l.place l.locals)) (tree l.returned))
    × (l.rows ≡ l.initial.rows)
    × (l.rows ≡ (names l.scope.names).tables)
