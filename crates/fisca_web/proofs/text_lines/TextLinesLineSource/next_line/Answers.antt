use Rattle.std.proofs.Common.{sym}
use Rattle.fisca_web.proofs.FirstLine.{few}
use Rattle.fisca_web.proofs.text_lines.TextLinesLineSource.next_line.Goals as goal

-- a text has no more lines than bytes
pub returns-then-is_err-clause-few : goal.returns-then-is_err-clause-few
returns-then-is_err-clause-few c = few c.args.self.now c.self.inside.left.now (sym c.self.view_is) c.self.invariant

pub returns-clause-few : goal.returns-clause-few
returns-clause-few c = few c.args.self.now c.self.inside.left.now (sym c.self.view_is) c.self.invariant
