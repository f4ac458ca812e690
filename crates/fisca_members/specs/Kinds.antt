-- The numbers of the kinds of faults.
use Rattle.std.specs.Prelude.{ℕ}
use Rattle.fisca_members.specs.declared.fault.MembersKind.{MembersKind}
use Rattle.fisca_members.specs.declared.fault.MembersKind.TheVariants.{UnknownEntity, UnknownPerson, PersonTwice, RoleFull, BadValue, TooMany, Memory}

abbrev pub number_of : MembersKind → ℕ
number_of UnknownEntity = 1
number_of UnknownPerson = 2
number_of PersonTwice = 3
number_of RoleFull = 4
number_of BadValue = 5
number_of TooMany = 6
number_of Memory = 7
