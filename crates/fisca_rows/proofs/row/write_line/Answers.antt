use Rattle.fisca_situations.proofs.Asking.{some_all, some_none}
use Rattle.fisca_rows.specs.Asked.{keys_written}
use Rattle.fisca_rows.proofs.row.write_line.Goals as goal

pub returns-then-is_err-clause-asked : goal.returns-then-is_err-clause-asked
returns-then-is_err-clause-asked g c =
    some_none g.A.Answers.worked g.A.Answers.refused c.args.answers.now (keys_written (g.A.Answers.answer c.args.answers.now) c.args.asked.now.columns.now)

pub returns-in-Err-clause-asked : goal.returns-in-Err-clause-asked
returns-in-Err-clause-asked g c =
    some_all g.A.Answers.worked g.A.Answers.refused _ _ (keys_written (g.A.Answers.answer c.args.answers.now) c.args.asked.now.columns.now) c.in_ok-write_columns.ensures.asked
