-- Periods of a formula, and what is asked for at them.
use Rattle.std.proofs.Common.{lit<}
use Rattle.std.specs.Prelude.{ℕ, pos, ◌==◌, ◌&&◌, ◌||◌, List, [], ◌∷◌, Bool, false, nat_lt, if◌then◌else◌, Option, Some, None, Result, Ok, Err}
use Rattle.fisca_num.specs.Number.{Number, zero_number, whole_number}
use Rattle.fisca_num.specs.Operations.{sum_of, quotient_of, number_over}
use Rattle.fisca_num.specs.Results.{and_then}
use Rattle.fisca_time.specs.Instant.{CivilDate}
use Rattle.fisca_time.specs.Period.{Span, moved_by, this_year_of, first_month_of, first_day_of, last_month_of, last_year_of, n_2_of, last_3_months_of, start_of, subs, unit_of}
use Rattle.fisca_time.specs.Unit.{rank, is_year}
use Rattle.fisca_time.specs.declared.fault.TimeFault.{TimeFault}
use Rattle.fisca_time.specs.declared.unit.Unit.{Unit}
use Rattle.fisca_time.specs.declared.unit.Unit.TheVariants as unit
use Rattle.fisca_typing.specs.declared.asking.Asking.{Asking}
use Rattle.fisca_typing.specs.declared.asking.Asking.TheVariants as asking
use Rattle.fisca_typing.specs.declared.asking.Whom.{Whom}
use Rattle.fisca_typing.specs.declared.asking.Whom.TheVariants as whom
use Rattle.fisca_model.specs.declared.value_type.ValueType.{ValueType}
use Rattle.fisca_model.specs.declared.value_type.ValueType.TheVariants as vt
use Rattle.fisca_typing.specs.declared.moves.DatePart.{DatePart}
use Rattle.fisca_typing.specs.declared.moves.DatePart.TheVariants as part
use Rattle.fisca_typing.specs.declared.moves.Move.{Move}
use Rattle.fisca_typing.specs.declared.moves.Move.TheVariants as step
use Rattle.fisca_model.specs.Tables.{Variable}
use Rattle.fisca_model.specs.Values.{Value, Key, number, bool, member}
use Rattle.fisca_key_semantics.specs.Dialogues.{Dialogue, gives, fails, stuck, asks, ◌>>=◌, with_number, computed, period_mismatch, period_out_of_range}
use Rattle.fisca_model.specs.Groups.{Groups, Point, persons_at, with_role}
use Rattle.fisca_model.specs.declared.role_place.RolePlace.{RolePlace}
use Rattle.fisca_model.specs.Periods.{fits, key_period, is_eternity}

-- Periods

abbrev pub moved : Move → Span → Result Span TimeFault
moved step.ThisYear p = this_year_of p
moved step.FirstMonth p = first_month_of p
moved step.FirstDay p = first_day_of p
moved step.LastMonth p = last_month_of p
moved step.LastThreeMonths p = last_3_months_of p
moved step.LastYear p = last_year_of p
moved step.TwoYearsAgo p = n_2_of p
moved (step.Offset k) p = moved_by k (unit_of p) p
moved (step.OffsetBy k u) p = moved_by k u p

abbrev pub moved_all : List Move → Span → Result Span TimeFault
moved_all [] p = Ok p
moved_all (m ∷ ms) p = and_then (moved m p) (moved_all ms)

abbrev pub in_range : {X : Type 0} → Result X TimeFault → (X → Dialogue) → Dialogue
in_range (Ok x) f = f x
in_range (Err e) f = fails period_out_of_range

abbrev pub at_period : List Move → Span → (Span → Dialogue) → Dialogue
at_period ms p f = in_range (moved_all ms p) f

-- eternity has no start
abbrev pub on_start : Option CivilDate → (CivilDate → Dialogue) → Dialogue
on_start None f = fails period_out_of_range
on_start (Some d) f = f d

abbrev pub at_start : List Move → Span → (CivilDate → Dialogue) → Dialogue
at_start ms p f = at_period ms p (λ q. on_start (start_of q) f)

abbrev pub part_of : DatePart → CivilDate → ℕ
part_of part.Year d = d.year
part_of part.Month d = d.month
part_of part.Day d = d.day

abbrev pub counted : ℕ → Dialogue
counted n = computed (number_over (pos n) (pos 1))

-- Persons and groups at hand

-- one of the group's persons where their values are taken, else the member itself
abbrev pub person_of : Point → ℕ
person_of p = else_member p.person where
  else_member : Option ℕ → ℕ
  else_member None = p.member
  else_member (Some m) = m

-- the member itself where it is a group of this entity, else the group that the person belongs to
abbrev pub group_at : Groups → Point → ℕ → ℕ
group_at g p e = if p.entity == e then p.member else g.group_of e p.member

-- the persons of that group, of the role alone if there is one
abbrev pub persons_in : Groups → Point → ℕ → Option RolePlace → List ℕ
persons_in g p e r = with_role g e r (g.persons e (group_at g p e))

-- Asking

abbrev pub key : ℕ → ℕ → Span → Key
key v m p = record { variable = v; member = m; period = p }

abbrev pub mismatch : ℕ → ℕ → Span → Dialogue
mismatch v m p = fails (period_mismatch (key v m p))

abbrev pub ask_plain : ℕ → Unit → ℕ → Span → Dialogue
ask_plain v u m p = if fits u p then asks (key v m (key_period u p)) gives else mismatch v m p

-- in turn, each added to the sum of those before it
abbrev pub ask_all : ℕ → ℕ → List Span → Number → Dialogue
ask_all v m [] sum = gives (number sum)
ask_all v m (p ∷ ps) sum = asks (key v m p) (λ x. with_number x (λ n. computed (sum_of sum n) >>= λ y. with_number y (λ s. ask_all v m ps s)))

-- the definition period is longer than the unit that is asked for, or one of them is eternity
abbrev pub has_no_parts : Unit → Span → Bool
has_no_parts u p = nat_lt (rank (unit_of p)) (rank u) || (is_eternity u || is_eternity (unit_of p))

abbrev pub ask_sum : ℕ → Unit → ℕ → Span → Dialogue
ask_sum v u m p = if has_no_parts u p then mismatch v m p else ask_all v m (subs p u) zero_number

abbrev pub twelve : Number
twelve = whole_number (pos 12) (lit< tt)

-- the value of the calendar year in which a period starts, and what is made of it
abbrev pub ask_year : ℕ → ℕ → Span → (Number → Dialogue) → Dialogue
ask_year v m p f = in_range (this_year_of p) (λ y. asks (key v m y) (λ x. with_number x f))

-- of a yearly variable a twelfth for a month, and the whole for a year
abbrev pub ask_part : ℕ → Unit → ℕ → Span → Dialogue
ask_part v u m p =
    if is_year u && fits unit.Month p then ask_year v m p (λ n. computed (quotient_of n twelve))
    else (if is_year u && fits unit.Year p then ask_year v m p (λ n. gives (number n)) else mismatch v m p)

abbrev pub ask_by : Asking → ℕ → Unit → ℕ → Span → Dialogue
ask_by asking.Plain v u m p = ask_plain v u m p
ask_by asking.Add v u m p = ask_sum v u m p
ask_by asking.Divide v u m p = ask_part v u m p

-- what stands for the value of nobody
abbrev pub default_of : ValueType → Value
default_of vt.Number = number zero_number
default_of vt.Bool = bool false
default_of (vt.Enum e) = member 0

abbrev pub default_by : Asking → ValueType → Value
default_by asking.Plain t = default_of t
default_by asking.Add t = number zero_number
default_by asking.Divide t = number zero_number

abbrev pub ask_first : Asking → ℕ → Unit → ValueType → Span → List ℕ → Dialogue
ask_first how v u t p [] = gives (default_by how t)
ask_first how v u t p (m ∷ ms) = ask_by how v u m p

abbrev pub ask_person : Asking → ℕ → Unit → Span → Option ℕ → Dialogue
ask_person how v u p None = stuck
ask_person how v u p (Some m) = ask_by how v u m p

abbrev pub ask_of : Groups → Point → Whom → Asking → ℕ → Unit → ValueType → Span → Dialogue
ask_of g p whom.Own how v u t q = ask_by how v u p.member q
ask_of g p (whom.Group e) how v u t q = ask_by how v u (g.group_of e p.member) q
ask_of g p whom.Person how v u t q = ask_person how v u q p.person
ask_of g p (whom.Holder r) how v u t q = ask_first how v u t q (persons_at g p (Some r))

abbrev pub ask_typed : Groups → Point → Whom → Asking → ℕ → Unit → Span → Option ValueType → Dialogue
ask_typed g p w how v u q None = stuck
ask_typed g p w how v u q (Some t) = ask_of g p w how v u t q

abbrev pub ask_known : Groups → Point → Whom → Asking → ℕ → Span → Option Variable → Dialogue
ask_known g p w how v q None = stuck
ask_known g p w how v q (Some x) = ask_typed g p w how v x.definition_period q x.value_type
