use Rattle.fisca_run_file.specs.Views.{run_file}
use Rattle.fisca_yaml.specs.Views.{node}
use Rattle.fisca_commands.proofs.size.read_size.Goals as goal

pub returns-clause-ok : goal.returns-clause-ok
returns-clause-ok c = (run_file c.in_ok-run.run', (node c.in_ok-tree.tree, c.in_ok-tree.ensures.ok, c.in_ok-run.ensures.ok), c.size.ensures)
