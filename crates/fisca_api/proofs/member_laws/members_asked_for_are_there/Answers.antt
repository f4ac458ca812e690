use Rattle.fisca_api.proofs.Asked.{asked_members, chained_members, others_same}
use Rattle.fisca_api.proofs.member_laws.members_asked_for_are_there.Goals as goal

pub returns : goal.returns
returns c = record { asked = asked_members; chains = chained_members; others = others_same }
