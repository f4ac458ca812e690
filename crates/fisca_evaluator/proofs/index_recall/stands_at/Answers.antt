use Rattle.std.proofs.Common.{◌∙◌}
use Rattle.fisca_inputs.proofs.Noted.{entry_stands}
use Rattle.fisca_evaluator.proofs.index_recall.stands_at.Goals as goal

pub returns-in-Some : goal.returns-in-Some
returns-in-Some c = c.eq.ensures ∙ entry_stands c.args.key.now c.args.entries.now.entries c.args.place _ c.in-Some.ensures.entry

pub returns-in-None : goal.returns-in-None
returns-in-None c = entry_stands c.args.key.now c.args.entries.now.entries c.args.place _ c.in-None.ensures.entry
