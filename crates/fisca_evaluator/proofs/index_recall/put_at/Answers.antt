use Rattle.std.proofs.lemmas.Bool.{false≢true}
use Rattle.fisca_inputs.proofs.Noted.{put_there, stands_within}
use Rattle.fisca_evaluator.proofs.index_recall.put_at.Goals as goal

pub returns-in-Some : goal.returns-in-Some
returns-in-Some c = put_there c.args.key.now c.args.stamped c.args.entries.now.entries c.args.place c.get_index_mut.ensures.unique c.requires

pub returns-in_default : goal.returns-in_default
returns-in_default c =
    absurd (false≢true (c.in_default.ensures.found.1 (stands_within c.args.key.now c.args.entries.now.entries c.args.place c.requires)))
