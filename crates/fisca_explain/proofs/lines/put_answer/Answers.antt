use Rattle.std.proofs.Common.{[]}
use Rattle.fisca_symbols.specs.Known.{tables as known}
use Rattle.fisca_explain.proofs.Keeping.{fault_put, value_put}
use Rattle.fisca_explain.proofs.lines.put_answer.Goals as goal

pub returns-in_ok-line-in-Ok-clause-answer : goal.returns-in_ok-line-in-Ok-clause-answer
returns-in_ok-line-in-Ok-clause-answer c =
    value_put (known c.args.view.now.rules.now.tables) [] c.args.key.now.variable c.args.answer _ _ c.in-Ok.value c.in-Ok.is c.requires.fault c.in_ok-line-in-Ok.ensures

pub returns-in-Err-clause-answer : goal.returns-in-Err-clause-answer
returns-in-Err-clause-answer c =
    fault_put (known c.args.view.now.rules.now.tables) [] c.args.key.now.variable c.args.answer _ _ c.in-Err.fault c.in-Err.is c.name-line.ensures c.requires.value
