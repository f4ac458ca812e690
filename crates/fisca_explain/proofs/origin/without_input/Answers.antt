use Rattle.std.proofs.Common.{sym}
use Rattle.fisca_check.specs.Formulas.{formula_view}
use Rattle.fisca_model.specs.Seen.{key_seen}
use Rattle.fisca_simulation.proofs.Origins.{of_formula}
use Rattle.fisca_simulation.specs.Views.{simulation}
use Rattle.fisca_explain.proofs.origin.without_input.Goals as goal

pub returns-in-Some : goal.returns-in-Some
returns-in-Some c =
    let formula = sym c.in-Some.ensures in
    (c.requires.variable, formula, of_formula (simulation c.args.simulation.now) (key_seen c.args.key.now) c.args.variable.now c.requires.variable c.requires.input (formula_view c.in-Some.formula.now) formula)

pub without_formula-requires : goal.without_formula-requires
without_formula-requires c = record { variable = c.requires.variable; input = c.requires.input; formula = sym c.in-None.ensures }
