use Rattle.std.proofs.Common.{◌≤◌, arith, length}
use Rattle.indexmap.specs.IndexSet.{contains}
use Rattle.fisca_inputs.specs.Entries.{same_key}
use Rattle.fisca_situations.proofs.GivenKeys.{noted_by, told_by}
use Rattle.fisca_situations.proofs.given_inputs.note_behind.Goals as goal

pub returns-clause-told : goal.returns-clause-told
returns-clause-told c = told_by c.note.result (contains same_key c.fill.new.keys) c.args.items.now c.args.key c.in_ok-fill.ensures c.note.ensures.told

pub returns-clause-noted : goal.returns-clause-noted
returns-clause-noted c =
    let many : 8 ≤ length c.args.items.now = omega (arith, c.if-items-lt-FEW.false) in
    noted_by c.note.result (contains same_key c.fill.new.keys) c.args.items.now c.args.key c.in_ok-fill.ensures (contains same_key c.note.new.keys) many c.note.ensures.noted
