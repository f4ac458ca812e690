use Rattle.fisca_web.proofs.FirstLine.{split_at, split_none}
use Rattle.fisca_web.proofs.text_lines.split.Goals as goal

pub returns-in-Some-clause-lines : goal.returns-in-Some-clause-lines
returns-in-Some-clause-lines c = split_at c.args.text.now c.in-Some.at c.in-Some.ensures

pub returns-in-None-clause-lines : goal.returns-in-None-clause-lines
returns-in-None-clause-lines c = split_none c.args.text.now c.in-None.ensures c.requires
