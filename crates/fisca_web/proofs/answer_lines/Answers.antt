use Rattle.std.proofs.Common.{◌++◌, ◌∙◌, Some, ap, refl, sym, subst}
use Rattle.fisca_commands.specs.CalcLines.{streams_of}
use Rattle.fisca_web.specs.Reply.{Says}
use Rattle.fisca_web.specs.TextLines.{lines_of}
use Rattle.fisca_web.proofs.Told.{first, handed}
use Rattle.fisca_web.proofs.answer_lines.Goals as goal

pub returns : goal.returns
returns c done = record {
  old = streams_of (Some c.in-Some.lines) (Some c.new-sink.result.bytes) c.new-sink.result.failures (Some c.new-told.result.bytes) c.new-told.result.failures;
  new = streams_of (Some c.calc_lines-ending.new.source) (Some c.calc_lines-ending.new.sink.bytes) c.calc_lines-ending.new.sink.failures (Some c.calc_lines-ending.new.told.bytes) c.calc_lines-ending.new.told.failures;
  begun = first c.in-Some.lines (lines_of c.args.text.now) _ _ _ _ c.in-Some.ensures c.new-sink.ensures.bytes c.new-sink.ensures.failures c.new-told.ensures.bytes c.new-told.ensures.failures;
  written = c.calc_lines-ending.new.sink.bytes;
  told = c.calc_lines-ending.new.told.bytes;
  ended = (refl, refl);
  outcome = c.calc_lines-ending.result;
  ending = c.calc_lines-ending.ensures;
  says =
      subst (λ told. Says c.calc_lines-ending.new.sink.bytes told c.calc_lines-ending.result.status c.tell.new.out c.tell.new.reply)
      (c.bytes.ensures ∙ (handed _ c.hand_over.result (sym c.is_err.ensures.value ∙ c.if-is_err.false) c.hand_over.ensures.all
      ∙ ap (λ line. c.calc_lines-ending.new.told.bytes ++ line) (c.as_bytes.ensures.value ∙ c.line_of.ensures)))
      (subst (λ n. Says c.calc_lines-ending.new.sink.bytes c.bytes.result.now n c.tell.new.out c.tell.new.reply) c.status.ensures (c.tell.ensures done));
}
