use Rattle.fisca_api.proofs.Asked.{grouped_persons, held_persons}
use Rattle.fisca_api.proofs.MembersRead.{position_members, situation_members}
use Rattle.fisca_api.proofs.member_laws.persons_have_groups.Goals as goal

pub returns : goal.returns
returns c = record { groups = grouped_persons; persons = held_persons; situations = situation_members; positions = position_members }
