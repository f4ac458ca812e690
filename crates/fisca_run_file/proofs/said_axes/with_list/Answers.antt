use Rattle.fisca_run_file.proofs.Counted.{listed}
use Rattle.fisca_run_file.specs.Views.{said_axes, said_list}
use Rattle.fisca_run_file.proofs.said_axes.with_list.Goals as goal

pub returns : goal.returns
returns c =
    listed c.args.key (said_axes c.args.said) c.args.items.now (said_list c.in_ok-axes.axes.items) c.in-Ok.length c.push.new.self.items c.in_ok-axes.ensures.said c.in-Ok.ensures.1
    c.in_ok-push.ensures.items
