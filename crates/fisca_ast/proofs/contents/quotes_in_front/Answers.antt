use Rattle.std.proofs.Common.{sym}
use Rattle.fisca_ast.proofs.InQuotes.{said_utf8}
use Rattle.fisca_ast.proofs.contents.quotes_in_front.Goals as goal

pub returns-in-Err : goal.returns-in-Err
returns-in-Err c = absurd (c.in-Err.ensures.cases.0 (rw (c.between_quotes.ensures, c.split_at.ensures.front) (said_utf8 c.args.text.now c.in-Some.size c.requires.end c.requires.quote (sym c.in-Some.ensures.value))))
