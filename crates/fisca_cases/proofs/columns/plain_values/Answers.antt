use Rattle.std.proofs.Common.{subst, sym}
use Rattle.fisca_columns.specs.Views.{calc}
use Rattle.fisca_simulation.specs.Told.{IsReady}
use Rattle.fisca_yaml.specs.Views.{node}
use Rattle.fisca_cases.proofs.columns.plain_values.Goals as goal

pub shown-requires : goal.shown-requires
shown-requires c = subst IsReady (sym c.new-evaluator.ensures) (record { safe = c.requires; fit = c.calc_inputs_fit.ensures c.args.rules.now c.requires (node c.in_ok-tree.tree) (calc c.in_ok-file.file) c.in_ok-file.ensures })
