use Rattle.std.proofs.Common.{map, ap, sym, ◌∙◌}
use Rattle.std.specs.Map.{keys_of}
use Rattle.fisca_num.specs.Results.{and_then}
use Rattle.fisca_inputs.specs.Defaults.{with_defaults}
use Rattle.fisca_inputs.specs.Rules.{rule_of}
use Rattle.fisca_inputs.proofs.First.{rows_stay}
use Rattle.fisca_inputs.proofs.inputs.Inputs.put_defaults.Goals as goal

pub loop-row-preserved : goal.loop-row-preserved
loop-row-preserved c =
    let rules = map rule_of c.args.variables.now in
    let counts = c.args.counts.now in
    let givens = c.args.givens.now in
    let put = c.in_ok-put_beside.ensures in
    let steps = c.in-Some.ensures.steps in
    let first = rw steps at c.loop-row.invariant.first in
    record {
      whole = sym (ap (λ r. and_then r (with_defaults rules counts givens (keys_of c.next.new.self))) put)
          ∙ sym (ap (λ rows. with_defaults rules counts givens (keys_of rows) c.loop-row.self) steps) ∙ c.loop-row.invariant.whole;
      first = rows_stay rules counts givens c.in-Some.row.now c.loop-row.self c.put_beside.new.self put c.next.new.self first.1;
    }
