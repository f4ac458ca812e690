use Rattle.fisca_yaml.specs.Views.{node}
use Rattle.fisca_api.proofs.Files.{run_accepted}
use Rattle.fisca_api.proofs.readers.read_run_file.Goals as goal

pub returns-clause-accepted : goal.returns-clause-accepted
returns-clause-accepted c = run_accepted c.args.rules.now (node c.args.tree.now) c.read.result c.read.ensures.file
