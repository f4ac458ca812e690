use Rattle.fisca_params.proofs.Walks.{entries-drop}
use Rattle.fisca_situations.proofs.Steps.{member_step}
use Rattle.fisca_situations.proofs.sections.members_given.Goals as goal

pub loop-member-preserved : goal.loop-member-preserved
loop-member-preserved c =
    let at = c.loop-member.member in
    let cut = entries-drop c.args.entries.now at c.index-entries-member.result c.loop-member-test.true c.index-entries-member.is in
    member_step _ _ _ _ at _ _ _ _ _ _ _ _ c.loop-member.invariant cut c.in_ok-found.ensures
