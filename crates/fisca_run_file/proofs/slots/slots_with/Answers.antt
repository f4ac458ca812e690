use Rattle.std.proofs.Common.{◌≤◌, ◌++◌, ◌∙◌, length, sym, ap, arith, append-nil}
use Rattle.fisca_run_file.proofs.Grouped.{slots_out}
use Rattle.fisca_situations.specs.Views.{slot_list}
use Rattle.fisca_run_file.proofs.slots.slots_with.Goals as goal

pub returns-then-i-moved : goal.returns-then-i-moved
returns-then-i-moved c =
    let past : length c.args.moved.now ≤ c.loop-i.i = omega arith in
    let out = slots_out c.args.tables.now c.args.neutral.now c.args.wheels.now c.args.moved.now c.loop-i.i past in
    let found = slot_list c.loop-i.slots.items in
    sym (c.loop-i.invariant ∙ (ap (λ more. found ++ more) out ∙ append-nil found))
