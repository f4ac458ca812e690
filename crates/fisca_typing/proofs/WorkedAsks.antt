-- Questions beside their sentences.
use Rattle.std.proofs.Common.{◌≡◌, ℕ, List, [], ◌∷◌, refl}
use Rattle.std.specs.Prelude.{codes, Err, Result, Some, None}
use Rattle.fisca_ast.specs.Tree.{Tree, binary, text}
use Rattle.fisca_ast.specs.declared.tree.Operator.TheVariants as op
use Rattle.fisca_ast.specs.declared.fault.FormulaKind.{FormulaKind}
use Rattle.fisca_ast.specs.declared.fault.FormulaKind.TheVariants as kind
use Rattle.fisca_typing.specs.declared.asking.Asking.TheVariants as asking
use Rattle.fisca_typing.specs.declared.asking.Whom.TheVariants as whom
use Rattle.fisca_typing.specs.declared.kinds.Level.TheVariants as level
use Rattle.fisca_typing.specs.declared.moves.Move.TheVariants as step
use Rattle.fisca_typing.specs.declared.operations.Total.TheVariants as total
use Rattle.fisca_typing.specs.Asks.{group_method, person_method}
use Rattle.fisca_typing.specs.Names.{known_word, added_word}
use Rattle.fisca_typing.specs.Nodes.{local, ask, has_role, count, total as of_all}
use Rattle.fisca_typing.specs.Periods.{period_attribute}
use Rattle.fisca_model.specs.Tables.{whole_role, subrole_of}
use Rattle.fisca_ast.specs.Steps.Contents.{said_within}
use Rattle.fisca_typing.specs.Things.{Thing}
use Rattle.fisca_typing.specs.Typing.{thing_of}
use Rattle.fisca_typing.proofs.Examples.{of_household, of_person, k, n, b, m, t, o, nope, w, call, call_with, and_keyword, dot, group, list, period, number, bool, occupancy}

abbrev is : Tree → Result Thing FormulaKind
is x = thing_of of_household x

abbrev is_to_person : Tree → Result Thing FormulaKind
is_to_person x = thing_of of_person x

abbrev household : Tree
household = w (codes "household")

abbrev person : Tree
person = w (codes "person")

abbrev add : Tree
add = list (w (codes "ADD") ∷ [])

abbrev divide : Tree
divide = list (w (codes "DIVIDE") ∷ [])

-- the name of a variable in quotes
abbrev rent : Tree
rent = text (codes "'rent'")

abbrev salary : Tree
salary = text (codes "'salary'")

abbrev with_options : Tree → Tree → Tree → Tree
with_options f v options = call_with f (and_keyword (v ∷ period ∷ []) (codes "options") options)

-- `x("v", p)` with x the first argument, of v's entity: v's type, own
own : is (call household (rent ∷ period ∷ [])) ≡ number level.Own (ask 3 whom.Own asking.Plain [])
unfolding said_within
own = refl

own_member : is (call household (text (codes "'occupancy'") ∷ dot period (codes "last_month") ∷ [])) ≡ occupancy level.Own (ask 5 whom.Own asking.Plain (step.LastMonth ∷ []))
unfolding said_within period_attribute
own_member = refl

grouped : is (call (group household) (group rent ∷ group period ∷ [])) ≡ number level.Own (ask 3 whom.Own asking.Plain [])
unfolding said_within
grouped = refl

-- `options=[ADD]`, `[DIVIDE]`: a number, an Enum there is of a bad type
added : is (with_options household rent add) ≡ number level.Own (ask 3 whom.Own asking.Add [])
unfolding said_within known_word
added = refl

divided : is (with_options household (text (codes "'social'")) divide) ≡ number level.Own (ask 4 whom.Own asking.Divide [])
unfolding said_within known_word
divided = refl

member_added : is (with_options household (text (codes "'occupancy'")) add) ≡ Err kind.BadType
unfolding said_within known_word
member_added = refl

both_options : is (with_options household rent (list (w (codes "ADD") ∷ w (codes "DIVIDE") ∷ []))) ≡ Err kind.BadType
unfolding said_within known_word
both_options = refl

no_option : is (with_options household rent (list [])) ≡ Err kind.BadType
unfolding said_within
no_option = refl

other_option : is (with_options household rent (list (n ∷ []))) ≡ Err kind.BadType
unfolding said_within
other_option = refl

-- number and names of the arguments first, then the variable, then the period, then the options
one_argument : is (call household (nope ∷ [])) ≡ Err kind.BadType
one_argument = refl

three_arguments : is (call household (rent ∷ period ∷ add ∷ [])) ≡ Err kind.BadType
three_arguments = refl

other_keyword : is (call_with household (and_keyword (nope ∷ period ∷ []) (codes "option") add)) ≡ Err kind.BadType
other_keyword = refl

no_text : is (call household (n ∷ nope ∷ [])) ≡ Err kind.BadType
no_text = refl

unknown_variable : is (call household (text (codes "'nope'") ∷ nope ∷ [])) ≡ Err kind.UnknownVariable
unfolding said_within
unknown_variable = refl

a_date : is (call household (text (codes "'birth'") ∷ nope ∷ [])) ≡ Err kind.BadType
unfolding said_within
a_date = refl

-- a variable of another entity is at a bad level
other_entity : is (call household (salary ∷ nope ∷ [])) ≡ Err kind.BadLevel
unfolding said_within
other_entity = refl

no_period : is (call household (rent ∷ nope ∷ [])) ≡ Err kind.UnknownName
unfolding said_within known_word added_word
no_period = refl

number_as_period : is (call_with household (and_keyword (rent ∷ n ∷ []) (codes "options") nope)) ≡ Err kind.BadType
unfolding said_within
number_as_period = refl

start_as_period : is (call household (rent ∷ dot period (codes "start") ∷ [])) ≡ Err kind.BadType
unfolding said_within period_attribute
start_as_period = refl

unknown_option : is (with_options household rent nope) ≡ Err kind.UnknownName
unfolding said_within known_word added_word
unknown_option = refl

-- `person.G("v", p)` with G a group's key, in a formula of persons: the group's value, own
of_group : is_to_person (call (dot person (codes "household")) (rent ∷ period ∷ [])) ≡ number level.Own (ask 3 (whom.Group 0) asking.Plain [])
unfolding said_within person_method
of_group = refl

own_variable_of_group : is_to_person (call (dot person (codes "household")) (salary ∷ period ∷ [])) ≡ Err kind.BadLevel
unfolding said_within person_method
own_variable_of_group = refl

group_with_options : is_to_person (with_options (dot person (codes "household")) rent add) ≡ number level.Own (ask 3 (whom.Group 0) asking.Add [])
unfolding said_within person_method known_word
group_with_options = refl

no_group : is_to_person (dot person (codes "person")) ≡ Err kind.UnknownName
unfolding person_method
no_group = refl

method_of_groups : is_to_person (dot person (codes "members")) ≡ Err kind.UnknownName
unfolding person_method
method_of_groups = refl

-- `person.has_role(G.ROLE)` in a formula of persons: bool, own
role : is_to_person (call (dot person (codes "has_role")) (dot (w (codes "Household")) (codes "CHILD") ∷ [])) ≡ bool level.Own (has_role 0 (whole_role 1))
unfolding person_method known_word
role = refl

subrole : is_to_person (call (dot person (codes "has_role")) (dot (w (codes "Household")) (codes "SECOND_PARENT") ∷ [])) ≡ bool level.Own (has_role 0 (subrole_of 0 1))
unfolding person_method known_word
subrole = refl

no_role : is_to_person (call (dot person (codes "has_role")) (dot (w (codes "Household")) (codes "NOPE") ∷ [])) ≡ Err kind.UnknownName
unfolding person_method known_word added_word
no_role = refl

role_of_none : is_to_person (call (dot person (codes "has_role")) []) ≡ Err kind.BadType
unfolding person_method
role_of_none = refl

number_as_role : is_to_person (call (dot person (codes "has_role")) (n ∷ [])) ≡ Err kind.BadType
unfolding person_method
number_as_role = refl

method_of_persons : is (dot household (codes "household")) ≡ Err kind.UnknownName
unfolding group_method
method_of_persons = refl

role_of_group : is (dot household (codes "nope")) ≡ Err kind.UnknownName
unfolding group_method
role_of_group = refl

-- a group with the key `has_role`: the arguments decide
strange_group : is_to_person (call (dot person (codes "has_role")) (text (codes "'fee'") ∷ period ∷ [])) ≡ number level.Own (ask 7 (whom.Group 3) asking.Plain [])
unfolding said_within person_method
strange_group = refl

-- `g.members("v", p)` in a formula of groups: v's type, members
members : is (call (dot household (codes "members")) (salary ∷ period ∷ [])) ≡ number level.Members (ask 0 whom.Person asking.Plain [])
unfolding said_within group_method
members = refl

members_with_options : is (with_options (dot household (codes "members")) (text (codes "'adult'")) add) ≡ number level.Members (ask 1 whom.Person asking.Add [])
unfolding said_within group_method known_word
members_with_options = refl

members_of_group : is (call (dot household (codes "members")) (rent ∷ period ∷ [])) ≡ Err kind.BadLevel
unfolding said_within group_method
members_of_group = refl

-- `g.sum(m)`, `g.min(m)`, `g.max(m)`, each perhaps with `role=G.ROLE`: number, own; m number or bool at members level
abbrev behind : List ℕ → List Tree → Tree
behind t xs = call (dot household t) xs

abbrev with_role : List ℕ → Tree → List ℕ → List ℕ → Tree
with_role t x g r = call_with (dot household t) (and_keyword (x ∷ []) (codes "role") (dot (w g) r))

sum : is (behind (codes "sum") (m ∷ [])) ≡ number level.Own (of_all total.Sum None (local 7))
unfolding group_method
sum = refl

lowest : is (with_role (codes "min") t (codes "Household") (codes "CHILD")) ≡ number level.Own (of_all total.Min (Some (whole_role 1)) (local 8))
unfolding group_method known_word
lowest = refl

highest : is (with_role (codes "max") m (codes "Household") (codes "FIRST_PARENT")) ≡ number level.Own (of_all total.Max (Some (subrole_of 0 0)) (local 7))
unfolding group_method known_word
highest = refl

sum_of_members : is (behind (codes "sum") (o ∷ [])) ≡ Err kind.BadType
unfolding group_method
sum_of_members = refl

sum_of_own : is (behind (codes "sum") (n ∷ [])) ≡ Err kind.BadLevel
unfolding group_method
sum_of_own = refl

sum_of_constant : is (behind (codes "sum") (k ∷ [])) ≡ Err kind.BadLevel
unfolding group_method
sum_of_constant = refl

-- a role of another entity is of a bad type, before the level
other_role : is (with_role (codes "sum") n (codes "Club") (codes "MEMBER")) ≡ Err kind.BadType
unfolding group_method known_word
other_role = refl

role_by_position : is (behind (codes "sum") (m ∷ dot (w (codes "Household")) (codes "CHILD") ∷ [])) ≡ Err kind.BadType
unfolding group_method known_word
role_by_position = refl

sum_by_keyword : is (call_with (dot household (codes "sum")) (and_keyword (m ∷ []) (codes "roles") (dot (w (codes "Household")) (codes "CHILD")))) ≡ Err kind.BadType
unfolding group_method known_word
sum_by_keyword = refl

-- `g.any(m)`, `g.all(m)`, the same: bool, own; m bool at members level
any : is (behind (codes "any") (t ∷ [])) ≡ bool level.Own (of_all total.Any None (local 8))
unfolding group_method
any = refl

all : is (with_role (codes "all") t (codes "Household") (codes "PARENT")) ≡ bool level.Own (of_all total.All (Some (whole_role 0)) (local 8))
unfolding group_method known_word
all = refl

any_of_numbers : is (behind (codes "any") (m ∷ [])) ≡ Err kind.BadType
unfolding group_method
any_of_numbers = refl

any_of_own : is (behind (codes "any") (b ∷ [])) ≡ Err kind.BadLevel
unfolding group_method
any_of_own = refl

-- `g.nb_persons()`, `g.nb_persons(G.ROLE)`: number, own
persons : is (behind (codes "nb_persons") []) ≡ number level.Own (count 0 None)
unfolding group_method
persons = refl

children : is (behind (codes "nb_persons") (dot (w (codes "Household")) (codes "CHILD") ∷ [])) ≡ number level.Own (count 0 (Some (whole_role 1)))
unfolding group_method known_word
children = refl

persons_by_keyword : is (call_with (dot household (codes "nb_persons")) (and_keyword [] (codes "role") (dot (w (codes "Household")) (codes "CHILD")))) ≡ Err kind.BadType
unfolding group_method known_word
persons_by_keyword = refl

persons_of_other_role : is (behind (codes "nb_persons") (dot (w (codes "Club")) (codes "MEMBER") ∷ [])) ≡ Err kind.BadType
unfolding group_method known_word
persons_of_other_role = refl

-- `person.G.nb_persons()`, `person.G.nb_persons(G.ROLE)` in a formula of persons, which this project adds: number, own
abbrev behind_group : List ℕ → List Tree → Tree
behind_group t xs = call (dot (dot person (codes "household")) t) xs

persons_of_group : is_to_person (behind_group (codes "nb_persons") []) ≡ number level.Own (count 0 None)
unfolding person_method
persons_of_group = refl

children_of_group : is_to_person (behind_group (codes "nb_persons") (dot (w (codes "Household")) (codes "CHILD") ∷ [])) ≡ number level.Own (count 0 (Some (whole_role 1)))
unfolding person_method known_word
children_of_group = refl

members_of_club : is_to_person (behind_group (codes "nb_persons") (dot (w (codes "Club")) (codes "MEMBER") ∷ [])) ≡ Err kind.BadType
unfolding person_method known_word
members_of_club = refl

sum_of_group : is_to_person (dot (dot person (codes "household")) (codes "sum")) ≡ Err kind.BadType
unfolding person_method
sum_of_group = refl

persons_of_role : is (dot (dot household (codes "first_parent")) (codes "nb_persons")) ≡ Err kind.BadType
unfolding group_method
persons_of_role = refl

-- `g.members.has_role(G.ROLE)` in a formula of groups, which this project adds: bool, members
abbrev are_children : Tree
are_children = call (dot (dot household (codes "members")) (codes "has_role")) (dot (w (codes "Household")) (codes "CHILD") ∷ [])

roles_of_members : is are_children ≡ bool level.Members (has_role 0 (whole_role 1))
unfolding group_method known_word
roles_of_members = refl

number_of_children : is (behind (codes "sum") (are_children ∷ [])) ≡ number level.Own (of_all total.Sum None (has_role 0 (whole_role 1)))
unfolding group_method known_word
number_of_children = refl

roles_beside_own : is (binary op.Multiply n are_children) ≡ Err kind.BadLevel
unfolding group_method known_word
roles_beside_own = refl

role_alone : is (dot household (codes "has_role")) ≡ Err kind.UnknownName
unfolding group_method
role_alone = refl

persons_of_members : is (dot (dot household (codes "members")) (codes "nb_persons")) ≡ Err kind.BadType
unfolding group_method
persons_of_members = refl

-- `g.name("v", p)`, name a subrole or a role with `max` 1, other than `members`: the value of that person, own
of_subrole : is (behind (codes "first_parent") (salary ∷ period ∷ [])) ≡ number level.Own (ask 0 (whom.Holder (subrole_of 0 0)) asking.Plain [])
unfolding said_within group_method
of_subrole = refl

of_role_of_one : is (behind (codes "sum") (salary ∷ period ∷ [])) ≡ number level.Own (ask 0 (whom.Holder (whole_role 2)) asking.Plain [])
unfolding said_within group_method
of_role_of_one = refl

of_role_of_two : is (dot household (codes "parent")) ≡ Err kind.UnknownName
unfolding group_method
of_role_of_two = refl

of_role_without_limit : is (dot household (codes "child")) ≡ Err kind.UnknownName
unfolding group_method
of_role_without_limit = refl

own_variable_of_role : is (behind (codes "first_parent") (rent ∷ period ∷ [])) ≡ Err kind.BadLevel
unfolding said_within group_method
own_variable_of_role = refl

role_without_text : is (behind (codes "first_parent") (n ∷ period ∷ [])) ≡ Err kind.BadType
unfolding group_method
role_without_text = refl

-- an entity, its names, roles and texts are no values
entity_as_value : is (binary op.Add household n) ≡ Err kind.BadType
entity_as_value = refl

text_as_value : is (binary op.Add rent n) ≡ Err kind.BadType
text_as_value = refl

role_as_value : is (binary op.Add (dot (w (codes "Household")) (codes "CHILD")) n) ≡ Err kind.BadType
unfolding known_word
role_as_value = refl
