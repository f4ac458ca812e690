use Rattle.std.proofs.Common.{sym}
use Rattle.fisca_model.specs.Seen.{key_seen}
use Rattle.fisca_simulation.proofs.Origins.{of_input, of_none}
use Rattle.fisca_simulation.specs.Views.{simulation}
use Rattle.fisca_explain.proofs.origin.origin_of.Goals as goal

pub returns-in_default : goal.returns-in_default
returns-in_default c = of_none (simulation c.args.simulation.now) (key_seen c.args.key.now) (sym c.in_default.ensures)

pub returns-in-Some-input : goal.returns-in-Some-input
returns-in-Some-input c =
    let given = sym c.in-Some-input.ensures in
    (_, given, of_input (simulation c.args.simulation.now) (key_seen c.args.key.now) c.in-Some.variable.now (sym c.in-Some.ensures) _ given)

pub without_input-requires : goal.without_input-requires
without_input-requires c = record { variable = sym c.in-Some.ensures; input = sym c.in-None.ensures }
