use Rattle.std.proofs.Common.{◌≡◌, [], map, zip}
use Rattle.std.specs.Iterator.Adapters.{zip_first, zip_second}
use Rattle.std.specs.Slice.Iter.{iter_rest}
use Rattle.fisca_rules.specs.Steps.Rules.{formulas_of}
use Rattle.fisca_rules.specs.Views.{dated}
use Rattle.fisca_rules.proofs.Each.{all_behind}
use Rattle.fisca_rules.proofs.typed.formulas_of_all.Given as goal
use Rattle.fisca_symbols.specs.Known.{tables as known}
use Rattle.fisca_declarations.specs.VariableForms.{written}

-- what is made so far and what is left make the whole
abbrev pub invariant-loop-variable : goal.invariant-loop-variable
invariant-loop-variable l =
    (all_behind (formulas_of (known l.tables)) (map (λ gs. map dated gs.items.items) l.made.items)
    (zip (iter_rest (zip_first l.variable-iterator)) (map written (iter_rest (zip_second l.variable-iterator))))
    ≡ all_behind (formulas_of (known l.tables)) [] (zip l.tables.variables (map written l.declarations)))
    × (l.rows ≡ known l.tables)
