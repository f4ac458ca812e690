use Rattle.std.proofs.Common.{◌≤◌, ◌++◌, ◌∙◌, length, sym, ap, arith, append-nil}
use Rattle.fisca_run_file.proofs.Valued.{values_out}
use Rattle.fisca_run_file.proofs.positions.put_values.Goals as goal

pub returns-then-i-values : goal.returns-then-i-values
returns-then-i-values c =
    let past : length c.args.values.now ≤ c.loop-i.i = omega arith in
    let out = values_out c.args.tables.now c.args.moved.now c.args.values.now c.loop-i.i past in
    sym (c.loop-i.invariant ∙ (ap (λ more. c.loop-i.found.items ++ more) out ∙ append-nil c.loop-i.found.items))
