-- The meaning of formulas beside its sentences.
use Rattle.std.proofs.Common.{◌≡◌, ℕ, [], ◌∷◌, true, false, refl}
use Rattle.std.specs.Prelude.{Some, None, codes, ◌==◌, if◌then◌else◌}
use Rattle.fisca_num.specs.Number.{zero_number, one_number}
use Rattle.fisca_num.specs.Operations.{sum_of, quotient_of}
use Rattle.fisca_time.specs.Period.{Span, eternity, months, days}
use Rattle.fisca_time.specs.declared.unit.Unit.{Unit}
use Rattle.fisca_time.specs.declared.unit.Unit.TheVariants as unit
use Rattle.fisca_params.specs.declared.content.Content.TheVariants as content
use Rattle.fisca_typing.specs.declared.asking.Asking.TheVariants as asking
use Rattle.fisca_model.specs.declared.role_place.RolePlace.{RolePlace}
use Rattle.fisca_typing.specs.declared.asking.Whom.TheVariants as whom
use Rattle.fisca_model.specs.declared.value_type.ValueType.{ValueType}
use Rattle.fisca_model.specs.declared.value_type.ValueType.TheVariants as vt
use Rattle.fisca_typing.specs.declared.moves.Move.TheVariants as step
use Rattle.fisca_typing.specs.declared.operations.Logic.TheVariants as logic
use Rattle.fisca_typing.specs.declared.operations.Total.TheVariants as total
use Rattle.fisca_typing.specs.declared.operations.Unary.TheVariants as one
use Rattle.fisca_typing.specs.Nodes.{Node, truth, member, local, ask, has_role, count, total as of_all, unary, logic as both_of, same, choose, parameter, no_index, index, literal}
use Rattle.fisca_model.specs.Tables.{Tables, Variable, whole_role, subrole_of}
use Rattle.fisca_key_semantics.specs.Dialogues.{Dialogue, gives, fails, stuck, asks, ◌>>=◌, with_number, computed, period_mismatch, period_out_of_range, no_member, parameter_undefined}
use Rattle.fisca_model.specs.Values.{number, bool, member as member_value}
use Rattle.fisca_typing.specs.Meaning.{mean, mean_from}
use Rattle.fisca_model.specs.Groups.{Groups, Point}
use Rattle.fisca_typing.specs.Questions.{counted, key, twelve}

abbrev variable : ValueType → Unit → Variable
variable t u = record { name = []; entity = 0; value_type = Some t; definition_period = u }

-- monthly, yearly and eternal numbers, a bool of days, and a monthly member; two parameters without values
abbrev c : Tables
c = record {
  entities = [];
  enums = record { name = []; members = codes "a" ∷ codes "b" ∷ [] } ∷ [];
  variables = variable vt.Number unit.Month ∷ variable vt.Number unit.Year ∷ variable vt.Number unit.Eternity ∷ variable vt.Bool unit.Day ∷ variable (vt.Enum 0) unit.Month ∷ [];
  nodes = record { parent = None; name = []; content = content.Folder } ∷ record { parent = Some 0; name = []; content = content.Numbers [] } ∷ record { parent = Some 0; name = []; content = content.Bools [] } ∷ [];
}

-- person 5 in group 2; its persons are 5 in the first subrole and 7 in the second role
abbrev role_at : ℕ → RolePlace
role_at p = if p == 5 then subrole_of 0 0 else whole_role 1

abbrev g : Groups
g = record { group_of = λ e p. 2; role_of = λ e p. role_at p; persons = λ e m. 5 ∷ 7 ∷ [] }

-- February 2017, counted in months from the year 0
abbrev february : Span
february = months unit.Month 24205 1

abbrev at : Span → Point
at p = record { entity = 0; member = 3; person = None; period = p }

abbrev means : Node → Span → Dialogue
means n p = mean c g [] n (at p)

abbrev own : ℕ → Node
own v = ask v whom.Own asking.Plain []

-- a variable is asked for at one unit of its definition period; one of eternity at any, and its key has the eternal one
monthly : means (own 0) february ≡ asks (key 0 3 february) gives
monthly = refl

yearly_for_a_month : means (own 1) february ≡ fails (period_mismatch (key 1 3 february))
yearly_for_a_month = refl

two_months : means (own 0) (months unit.Month 24205 2) ≡ fails (period_mismatch (key 0 3 (months unit.Month 24205 2)))
two_months = refl

eternal : means (own 2) february ≡ asks (key 2 3 eternity) gives
eternal = refl

last_month : means (ask 0 whom.Own asking.Plain (step.LastMonth ∷ [])) february ≡ asks (key 0 3 (months unit.Month 24204 1)) gives
last_month = refl

before_the_calendar : means (ask 0 whom.Own asking.Plain (step.LastMonth ∷ [])) (months unit.Month 12 1) ≡ fails period_out_of_range
before_the_calendar = refl

-- ADD asks for the subperiods in order of time; it is refused for an eternal variable and where the definition period is longer
added : means (ask 0 whom.Own asking.Add []) (months unit.Month 24205 2)
    ≡ asks (key 0 3 february) (λ x. with_number x (λ n. computed (sum_of zero_number n) >>= λ y. with_number y (λ s.
    asks (key 0 3 (months unit.Month 24206 1)) (λ z. with_number z (λ m. computed (sum_of s m) >>= λ u. with_number u (λ r. gives (number r)))))))
added = refl

added_longer : means (ask 1 whom.Own asking.Add []) february ≡ fails (period_mismatch (key 1 3 february))
added_longer = refl

added_eternal : means (ask 2 whom.Own asking.Add []) february ≡ fails (period_mismatch (key 2 3 february))
added_eternal = refl

-- DIVIDE: a twelfth of the calendar year's value for a month, the whole for a year; all else is refused
divided : means (ask 1 whom.Own asking.Divide []) february ≡ asks (key 1 3 (months unit.Year 24204 1)) (λ x. with_number x (λ n. computed (quotient_of n twelve)))
divided = refl

divided_year : means (ask 1 whom.Own asking.Divide []) (months unit.Year 24207 1) ≡ asks (key 1 3 (months unit.Year 24204 1)) (λ x. with_number x (λ n. gives (number n)))
divided_year = refl

divided_day : means (ask 1 whom.Own asking.Divide []) (days 736000 1) ≡ fails (period_mismatch (key 1 3 (days 736000 1)))
divided_day = refl

divided_month : means (ask 0 whom.Own asking.Divide []) february ≡ fails (period_mismatch (key 0 3 february))
divided_month = refl

-- the group of a person, one holder of a role, and nobody, for whom no key is asked
of_group : means (ask 0 (whom.Group 0) asking.Plain []) february ≡ asks (key 0 2 february) gives
of_group = refl

holder : means (ask 0 (whom.Holder (subrole_of 0 0)) asking.Plain []) february ≡ asks (key 0 5 february) gives
holder = refl

nobody : means (ask 0 (whom.Holder (subrole_of 0 1)) asking.Plain []) february ≡ gives (number zero_number)
nobody = refl

nobody_of_enum : means (ask 4 (whom.Holder (subrole_of 0 1)) asking.Plain []) february ≡ gives (member_value 0)
nobody_of_enum = refl

-- who has a subrole has its role
role : mean c g [] (has_role 0 (whole_role 0)) (record { entity = 0; member = 5; person = None; period = february }) ≡ gives (bool true)
role = refl

other_subrole : mean c g [] (has_role 0 (subrole_of 0 1)) (record { entity = 0; member = 5; person = None; period = february }) ≡ gives (bool false)
other_subrole = refl

-- of the person at hand, where values of the group's persons are taken
role_of_person : mean c g [] (has_role 0 (whole_role 0)) (record { entity = 0; member = 7; person = Some 5; period = february }) ≡ gives (bool true)
role_of_person = refl

-- how many persons the formula's own group has, and the group of its person
abbrev here : ℕ → ℕ → ℕ → Node → Dialogue
here entity group at n = mean c (record g { persons = λ e m. if m == group then 5 ∷ 7 ∷ [] else [] }) [] n (record { entity = entity; member = at; person = None; period = february })

persons_here : here 0 3 3 (count 0 None) ≡ counted 2
persons_here = refl

persons_of_group : here 1 2 5 (count 0 (Some (whole_role 1))) ≡ counted 1
persons_of_group = refl

-- each person in turn, none skipped; of a role those who have it
abbrev of_person : ℕ → Node
of_person v = ask v whom.Person asking.Plain []

-- over none, and over the one person of a role
any_of_none : means (of_all total.Any (Some (whole_role 3)) (of_person 3)) february ≡ gives (bool false)
any_of_none = refl

all_of_none : means (of_all total.All (Some (whole_role 3)) (of_person 3)) february ≡ gives (bool true)
all_of_none = refl

sum_of_none : means (of_all total.Sum (Some (whole_role 3)) (of_person 0)) february ≡ gives (number zero_number)
sum_of_none = refl

lowest_of_none : means (of_all total.Min (Some (whole_role 3)) (of_person 0)) february ≡ fails no_member
lowest_of_none = refl

any_is_true : means (of_all total.Any None (truth true)) february ≡ gives (bool true)
any_is_true = refl

-- of `choose` the branch that is taken alone is worked out; `|` skips none
first_branch : means (choose (truth true) (member 0 1) (own 1)) february ≡ gives (member_value 1)
first_branch = refl

second_branch : means (choose (truth false) (own 1) (truth true)) february ≡ gives (bool true)
second_branch = refl

none_skipped : means (both_of logic.Or (truth true) (own 1)) february ≡ fails (period_mismatch (key 1 3 february))
none_skipped = refl

-- the index is worked out, and then the chosen parameter is read
chosen_parameter : means (parameter (index (member 0 1) 2 no_index) (1 ∷ 2 ∷ []) []) february ≡ fails parameter_undefined
chosen_parameter = refl

index_first : means (parameter (index (own 1) 2 no_index) (1 ∷ 2 ∷ []) []) february ≡ fails (period_mismatch (key 1 3 february))
index_first = refl

-- a local means what it means at the point where it is used, at each use anew
used_twice : mean_from c g [] (own 4 ∷ []) (same (local 0) (local 0)) (at february)
    ≡ asks (key 4 3 february) (λ x. asks (key 4 3 february) (λ y. gives y) >>= λ y. mean c g ((λ p. gives x) ∷ (λ p. gives y) ∷ []) (same (local 0) (local 1)) (at february))
used_twice = refl

-- what has no type is stuck
bool_of_number : means (unary one.Not (literal one_number)) february ≡ stuck
bool_of_number = refl

unknown_local : means (local 0) february ≡ stuck
unknown_local = refl

no_person : means (of_person 0) february ≡ stuck
no_person = refl
