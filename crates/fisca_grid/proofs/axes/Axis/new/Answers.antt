use Rattle.std.proofs.Common.{◌≡◌, to_z, of_z, w64, arith}
use Rattle.std.proofs.lemmas.Int.{ints}
use Rattle.fisca_grid.proofs.Steps.{on_line}
use Rattle.fisca_grid.proofs.axes.Axis.new.Goals as goal

pub on_line-requires-clause-line : goal.on_line-requires-clause-line
on_line-requires-clause-line c =
    let first : to_z w64 (of_z w64 c.thousandths-first.result) ≡ c.thousandths-first.result = omega (arith, ints) in
    let last : to_z w64 (of_z w64 c.thousandths-last.result) ≡ c.thousandths-last.result = omega (arith, ints) in
    let times : to_z w64 (of_z w64 c.times.result) ≡ c.times.result = omega (arith, ints) in
    let way : to_z w64 (of_z w64 c.way-increment.result) ≡ c.way-increment.result = omega (arith, ints) in
    let start = rw first at c.times.ensures.value in
    let rise = rw (last, first) at c.way-increment.ensures.value in
    let size = rw rise at c.way-increment.ensures.size in
    rw (times, way, start, rise, c.max-steps.ensures)
    (on_line c.args.spec c.thousandths-first.result c.thousandths-last.result (omega arith) c.thousandths-first.ensures.value c.thousandths-last.ensures.value c.thousandths-first.ensures.size size)
