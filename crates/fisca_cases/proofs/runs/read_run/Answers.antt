use Rattle.fisca_yaml.specs.Views.{node}
use Rattle.fisca_cases.proofs.runs.read_run.Goals as goal

pub returns-in-Ok-clause-accepted : goal.returns-in-Ok-clause-accepted
returns-in-Ok-clause-accepted c = record { tree = node c.args.tree.now; asked = record { safe = c.requires; read = c.in-Ok.ensures.file } }
