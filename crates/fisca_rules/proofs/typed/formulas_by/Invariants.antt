use Rattle.std.proofs.Common.{◌≡◌, [], map, drop}
use Rattle.fisca_rules.specs.Steps.Rules.{dated_of}
use Rattle.fisca_rules.specs.Views.{dated}
use Rattle.fisca_rules.proofs.Each.{all_behind}
use Rattle.fisca_rules.proofs.Lined.{formulas}
use Rattle.fisca_rules.proofs.typed.formulas_by.Given as goal
use Rattle.fisca_ast.specs.ModuleViews.{formula_view}
use Rattle.fisca_symbols.specs.Known.{tables as known}

abbrev pub invariant-loop-line : goal.invariant-loop-line
invariant-loop-line l =
    (all_behind (dated_of (known l.tables) l.declaration.module l.variable.entity l.value_type) (map dated l.made.items) (formulas (drop l.line-index l.line-items))
    ≡ all_behind (dated_of (known l.tables) l.declaration.module l.variable.entity l.value_type) [] (map formula_view l.declaration.formulas))
    × (l.rows ≡ l.initial.rows)
