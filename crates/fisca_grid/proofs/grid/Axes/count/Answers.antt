use Rattle.std.proofs.Common.{arith}
use Rattle.fisca_grid.proofs.Kept.{count_is}
use Rattle.fisca_grid.proofs.grid.Axes.count.Goals as goal

pub returns : goal.returns
returns c = omega (arith, c.len.ensures, c.self.inside.axes.ok.0, count_is _ _ _ _ c.self.invariant c.self.view_is)
