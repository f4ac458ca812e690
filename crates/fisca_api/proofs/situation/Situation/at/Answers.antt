use Rattle.fisca_api.specs.Views.{situation}
use Rattle.fisca_api.proofs.Fitting.{at_told}
use Rattle.fisca_api.proofs.OfGiven.{at_kept_told}
use Rattle.fisca_api.proofs.situation.Situation.at.Goals as goal

pub returns-clause-situation : goal.returns-clause-situation
returns-clause-situation c = rw (c.in_ok-neutral.ensures, c.as_slice.ensures.value, c.in_ok-given.ensures, c.as_slice-3.ensures.value, c.in_ok-members.ensures) at c.situation_with.ensures.situation

pub returns-clause-fit : goal.returns-clause-fit
returns-clause-fit c = at_told c.args.rules.now (situation c.args.self.now) c.args.values.now c.situation_with.result (returns-clause-situation c)

pub returns-clause-shared : goal.returns-clause-shared
returns-clause-shared c = at_kept_told c.args.rules.now.tables (situation c.args.self.now) c.args.values.now c.situation_with.result (returns-clause-situation c)
