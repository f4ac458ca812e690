use Rattle.std.proofs.Common.{◌∙◌, sym}
use Rattle.fisca_model.specs.Seen.{key_seen}
use Rattle.fisca_simulation.proofs.Origins.{of_default, of_nothing}
use Rattle.fisca_simulation.specs.Views.{simulation}
use Rattle.fisca_explain.proofs.origin.without_formula.Goals as goal

pub returns-in-None : goal.returns-in-None
returns-in-None c =
    of_nothing (simulation c.args.simulation.now) (key_seen c.args.key.now) c.args.variable.now c.requires.variable c.requires.input c.requires.formula (sym c.in-None.ensures)

pub returns-then-is_marked : goal.returns-then-is_marked
returns-then-is_marked c =
    let default = sym c.in-Some.ensures in (
      sym c.is_marked.ensures ∙ c.if-is_marked.true,
      (c.args.variable.now, _, c.requires.variable, default, of_default (simulation c.args.simulation.now) (key_seen c.args.key.now) c.args.variable.now c.requires.variable c.requires.input c.requires.formula _ default),
    )

pub returns-else-is_marked : goal.returns-else-is_marked
returns-else-is_marked c =
    let default = sym c.in-Some.ensures in (
      sym c.is_marked.ensures ∙ c.if-is_marked.false,
      (c.args.variable.now, _, c.requires.variable, default, of_default (simulation c.args.simulation.now) (key_seen c.args.key.now) c.args.variable.now c.requires.variable c.requires.input c.requires.formula _ default),
    )
