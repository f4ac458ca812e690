use Rattle.fisca_columns.specs.Views.{calc}
use Rattle.fisca_yaml.specs.Views.{node}
use Rattle.fisca_cases.proofs.columns.remembered_values.Goals as goal

pub shown-requires : goal.shown-requires
shown-requires g c = c.new-evaluator.ensures.ready (record { safe = c.requires.safe; fit = c.calc_inputs_fit.ensures c.args.rules.now c.requires.safe (node c.in_ok-tree.tree) (calc c.in_ok-file.file) c.in_ok-file.ensures })
