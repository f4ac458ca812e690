use Rattle.std.proofs.Common.{◌≡◌, ◌∙◌, ap, option_map, sym}
use Rattle.std.proofs.lemmas.Result.{on_ok_weaker}
use Rattle.fisca_model.specs.Seen.{key_seen, value_seen}
use Rattle.fisca_explain.specs.Explained.{of_key}
use Rattle.fisca_explain.specs.Says.{written}
use Rattle.fisca_explain.specs.Walks.{form_in, names_in}
use Rattle.fisca_explain.proofs.Written.{answer_of, line_alone, says_answer}
use Rattle.fisca_explain.proofs.walk.Walk.write_key.Goals.{in-None, in-Some}
use Rattle.fisca_explain.proofs.walk.Walk.write_key.Goals as goal

pub returns-clause-line : goal.returns-clause-line
returns-clause-line g c =
    let n = names_in c.args.self.now in
    let form = form_in c.args.self.now in
    let line = c.in_ok-line.line in
    let fault = c.args.self.now.fault in
    let answered : c.match-value.answer ≡ answer_of fault c.args.value =
    elim c.match-value.branch [ in-Some w ↦ w.answer-is ∙ sym (ap (answer_of fault) w.in-Some.is) | in-None w ↦ w.answer-is ∙ sym (ap (answer_of fault) w.in-None.is) ] in
    on_ok_weaker c.write.result
    (λ appended reason above_only. (
      written form line,
      line_alone n form (of_key c.args.depth (key_seen c.args.key.now) (option_map value_seen c.args.value) reason) line
          (says_answer n.tables n.members fault c.args.depth (key_seen c.args.key.now) c.args.value c.match-value.answer reason line answered (c.in_ok-line.ensures reason above_only)),
      appended,
    )) c.write.ensures.ok
