use Rattle.fisca_grid_run.proofs.Headline.{faulted, whole}
use Rattle.fisca_grid_run.proofs.PlainRuns.{faulted_plainly, whole_plainly}
use Rattle.fisca_grid_run.proofs.law.runs_are_whole.Goals as goal

pub returns-clause-whole : goal.returns-clause-whole
returns-clause-whole c = whole c.runs_continue.ensures.more c.runs_continue.ensures.ended

pub returns-clause-faulted : goal.returns-clause-faulted
returns-clause-faulted c = faulted c.runs_continue.ensures.faulted

pub returns-clause-plain : goal.returns-clause-plain
returns-clause-plain c = whole_plainly c.runs_continue.ensures.more c.runs_continue.ensures.ended

pub returns-clause-plain_faulted : goal.returns-clause-plain_faulted
returns-clause-plain_faulted c = faulted_plainly c.runs_continue.ensures.faulted
