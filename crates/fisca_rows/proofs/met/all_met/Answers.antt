use Rattle.std.proofs.Common.{◌∙◌, sym, arith}
use Rattle.std.proofs.lemmas.Grind.{common_steps}
use Rattle.std.proofs.lemmas.Result.{err_from_is_err_and}
use Rattle.fisca_rows.proofs.Asking.{met_end, met_fault, met_more}
use Rattle.fisca_rows.proofs.met.all_met.Goals as goal

pub returns-in_err-value-clause-asked : goal.returns-in_err-value-clause-asked
returns-in_err-value-clause-asked g c =
    let p = err_from_is_err_and c.from_residual.result c.from_residual.ensures.1 in
    let i = c.loop-condition.invariant in
    let x = c.condition-item in
    rw (p.1, p.2) (met_fault g.A.Answers.worked g.A.Answers.refused (g.A.Answers.answer c.args.answers.now) c.args.conditions.now c.loop-condition.condition-index x.result _ _ _ _ _ x.is c.loop-condition-test.true
    i.same c.in_err-value.ensures.answered c.in_err-value.ensures.step i.asked)

pub returns-then-not-meets-clause-asked : goal.returns-then-not-meets-clause-asked
returns-then-not-meets-clause-asked g c =
    let i = c.loop-condition.invariant in
    let x = c.condition-item in
    met_end g.A.Answers.worked g.A.Answers.refused (g.A.Answers.answer c.args.answers.now) c.args.conditions.now c.loop-condition.condition-index x.result _ _ _ _ _ x.is c.loop-condition-test.true
    i.same c.in_ok-value.ensures.answered (sym c.meets.ensures ∙ c.if-not-meets.true) c.in_ok-value.ensures.step i.asked

pub loop-condition-preserved : goal.loop-condition-preserved
loop-condition-preserved g c =
    let i = c.loop-condition.invariant in
    let x = c.condition-item in
    let holds = sym c.meets.ensures ∙ c.if-not-meets.false in
    record {
      ready = c.in_ok-value.ensures.ready;
      same = c.in_ok-value.ensures.same_answers ∙ i.same;
      members = c.in_ok-value.ensures.same_members ∙ i.members;
      met = grind (arith, common_steps);
      asked = met_more g.A.Answers.worked g.A.Answers.refused (g.A.Answers.answer c.args.answers.now) c.args.conditions.now c.loop-condition.condition-index x.result _ _ _ _ _ x.is c.loop-condition-test.true
          i.same c.in_ok-value.ensures.answered holds c.in_ok-value.ensures.step i.asked;
    }
