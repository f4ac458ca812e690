use Rattle.std.proofs.Common.{◌∙◌, arith}
use Rattle.std.proofs.lemmas.Grind.{common_steps}
use Rattle.std.proofs.lemmas.Result.{err_from_is_err_and}
use Rattle.fisca_rows.proofs.Asking.{handed_on, written_fault, written_more, written_part}
use Rattle.fisca_rows.proofs.lines.write_columns.Goals as goal

pub returns-in_err-value-clause-asked : goal.returns-in_err-value-clause-asked
returns-in_err-value-clause-asked g c =
    let p = err_from_is_err_and c.from_residual.result c.from_residual.ensures.1 in
    let i = c.loop-key.invariant in
    let k = c.key-item in
    handed_on g.A.Answers.worked g.A.Answers.refused _ _ _ c.from_residual.result p.0 c.in_err-value.field-0.0 p.1 p.2
    (written_fault g.A.Answers.worked g.A.Answers.refused (g.A.Answers.answer c.args.answers.now) c.args.columns.now c.loop-key.key-index k.result c.in_err-value.field-0.0 _ _ _ _ k.is c.loop-key-test.true i.same
    c.in_err-value.ensures.answered c.in_err-value.ensures.step i.asked)

pub returns-then-is_err-clause-asked : goal.returns-then-is_err-clause-asked
returns-then-is_err-clause-asked g c =
    let i = c.loop-key.invariant in
    let k = c.key-item in
    written_part g.A.Answers.worked g.A.Answers.refused (g.A.Answers.answer c.args.answers.now) c.args.columns.now c.loop-key.key-index k.result _ _ _ k.is c.loop-key-test.true
    c.in_ok-value.ensures.step i.asked

pub loop-key-preserved : goal.loop-key-preserved
loop-key-preserved g c =
    let i = c.loop-key.invariant in
    let k = c.key-item in
    record {
      ready = c.in_ok-value.ensures.ready;
      same = c.in_ok-value.ensures.same_answers ∙ i.same;
      members = c.in_ok-value.ensures.same_members ∙ i.members;
      written = grind (arith, common_steps);
      asked = written_more g.A.Answers.worked g.A.Answers.refused (g.A.Answers.answer c.args.answers.now) c.args.columns.now c.loop-key.key-index k.result _ _ _ _ _ k.is c.loop-key-test.true i.same
          c.in_ok-value.ensures.answered c.in_ok-value.ensures.step i.asked;
    }
