use Rattle.std.proofs.Common.{◌∙◌, map, ap, sym, slice_get}
use Rattle.fisca_num.specs.Results.{and_then}
use Rattle.fisca_inputs.specs.Rules.{rule_of}
use Rattle.fisca_inputs.specs.Sharing.{all_shared}
use Rattle.fisca_inputs.proofs.Filled.{runs_kept, shared_kept}
use Rattle.fisca_inputs.proofs.inputs.Inputs.put_givens.Goals as goal

pub loop-rank-preserved : goal.loop-rank-preserved
loop-rank-preserved c =
    let rules = map rule_of c.args.variables.now in
    let g = c.in-Some.given.now.now in
    let old = c.loop-rank.self in
    let new = c.put_by_variable.new.self in
    let put = c.in_ok-put_by_variable.ensures in
    let steps = c.in-Some.ensures.steps in
    record {
      whole = sym (ap (λ r. and_then r (all_shared rules (map (λ e. e.1.now) c.next.new.self))) put.value)
          ∙ sym (ap (λ gs. all_shared rules (map (λ e. e.1.now) gs) old) steps) ∙ c.loop-rank.invariant.whole;
      runs = put.runs new (λ k t. t) (runs_kept old new (shared_kept (slice_get rules g.variable) g old new put.value) c.loop-rank.runs.entries c.loop-rank.invariant.runs);
    }
