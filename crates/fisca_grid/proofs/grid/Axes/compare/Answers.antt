use Rattle.std.proofs.Common.{◌≡◌, arith}
use Rattle.fisca_grid.proofs.Kept.{count_is, axis_is}
use Rattle.fisca_grid.proofs.grid.Axes.compare.Goals as goal

pub index-turning-requires : goal.index-turning-requires
index-turning-requires c = omega (arith, c.requires.axis, count_is _ _ _ _ c.self.invariant c.self.view_is)

pub returns : goal.returns
returns c = λ x at.
    let turning = c.index-turning.result.now in
    let here = axis_is c.self.inside.axes.items c.self.inside.lengths.items c.self.inside.groups c.args.self.now c.args.axis c.args.position turning c.self.invariant c.self.view_is c.requires.axis c.index-turning.ensures in
    let same : x ≡ (turning.axis.spec, c.place.result) = cc in
    rw same c.compare.ensures
