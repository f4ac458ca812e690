use Rattle.std.proofs.Common.{◌∙◌, ℕ, ap}
use Rattle.fisca_api.specs.Marks.{wheels_at}
use Rattle.fisca_api.proofs.Marking.{wheel_more}
use Rattle.fisca_api.proofs.marks.with_wheel.Goals as goal

pub returns : goal.returns
returns c =
    let widened = c.in_ok-widen_wheels.ensures in
    let same = λ (x : ℕ). widened.same x ∙ ap (λ ns. wheels_at ns x) c.in_ok-all.ensures in
    wheel_more c.args.wheels.now c.widen_wheels.new.wheels.items c.args.place c.args.wheel c.index.result.now widened.enough c.requires same c.index.ensures
