use Rattle.fisca_yaml.specs.Views.{node}
use Rattle.fisca_api.proofs.Files.{calc_fits}
use Rattle.fisca_api.proofs.readers.read_calc_file.Goals as goal

pub returns-clause-fit : goal.returns-clause-fit
returns-clause-fit c = calc_fits c.calc_inputs_fit.ensures c.args.rules.now (node c.args.tree.now) c.read.result c.read.ensures
