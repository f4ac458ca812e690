-- Operations beside their sentences.
use Rattle.std.proofs.Common.{◌≡◌, [], ◌∷◌, false, refl}
use Rattle.std.specs.Prelude.{codes, Err, Result}
use Rattle.fisca_num.specs.Number.{zero_number}
use Rattle.fisca_ast.specs.Tree.{Tree, binary, compare, prefixed}
use Rattle.fisca_ast.specs.declared.tree.Operator.TheVariants as op
use Rattle.fisca_ast.specs.declared.tree.Comparison.TheVariants as cmp
use Rattle.fisca_ast.specs.declared.tree.Prefix.TheVariants as pre
use Rattle.fisca_ast.specs.declared.fault.FormulaKind.{FormulaKind}
use Rattle.fisca_ast.specs.declared.fault.FormulaKind.TheVariants as kind
use Rattle.fisca_typing.specs.declared.kinds.Level.TheVariants as level
use Rattle.fisca_typing.specs.declared.operations.Arithmetic.TheVariants as arith
use Rattle.fisca_typing.specs.declared.operations.Logic.TheVariants as logic
use Rattle.fisca_typing.specs.declared.operations.Unary.TheVariants as one
use Rattle.fisca_typing.specs.Names.{known_word, added_word, library_function, added_function}
use Rattle.fisca_typing.specs.Nodes.{local, truth, literal, unary, arithmetic, logic as both, comparison, same, choose}
use Rattle.fisca_typing.specs.Things.{Thing}
use Rattle.fisca_typing.specs.Typing.{thing_of}
use Rattle.fisca_typing.proofs.Examples.{of_household, k, q, d, n, b, e, s, m, t, o, nope, w, call, call_with, and_keyword, dot, list, group, number, bool, occupancy}

abbrev is : Tree → Result Thing FormulaKind
is x = thing_of of_household x

-- `+` and `*` of two bools: or, and
or : is (binary op.Add b q) ≡ bool level.Own (both logic.Or (local 4) (local 1))
or = refl

and : is (binary op.Multiply b q) ≡ bool level.Own (both logic.And (local 4) (local 1))
and = refl

-- else `+`, `-`, `*`, `/` of numbers, or bools as 0 and 1
sum : is (binary op.Add n b) ≡ number level.Own (arithmetic arith.Add (local 3) (local 4))
sum = refl

difference : is (binary op.Subtract b n) ≡ number level.Own (arithmetic arith.Subtract (local 4) (local 3))
difference = refl

product : is (binary op.Multiply n k) ≡ number level.Own (arithmetic arith.Multiply (local 3) (local 0))
product = refl

quotient : is (binary op.Divide k n) ≡ number level.Own (arithmetic arith.Divide (local 0) (local 3))
quotient = refl

-- `bool - bool` has no type; `bool / bool` is a number
bool_from_bool : is (binary op.Subtract b q) ≡ Err kind.BadType
bool_from_bool = refl

bool_by_bool : is (binary op.Divide b q) ≡ number level.Own (arithmetic arith.Divide (local 4) (local 1))
bool_by_bool = refl

member_in_sum : is (binary op.Add e n) ≡ Err kind.BadType
member_in_sum = refl

-- prefix `+`, `-` of a number
minus : is (prefixed pre.Minus n) ≡ number level.Own (unary one.Minus (local 3))
minus = refl

plus : is (prefixed pre.Plus n) ≡ number level.Own (local 3)
plus = refl

minus_bool : is (prefixed pre.Minus b) ≡ Err kind.BadType
minus_bool = refl

-- `&`, `|`, `~`, `not_(a)` of bools
ampersand : is (binary op.And b t) ≡ Err kind.BadLevel
ampersand = refl

bar : is (binary op.Or q t) ≡ bool level.Members (both logic.Or (local 1) (local 8))
bar = refl

bar_of_numbers : is (binary op.Or n b) ≡ Err kind.BadType
bar_of_numbers = refl

tilde : is (prefixed pre.Not b) ≡ bool level.Own (unary one.Not (local 4))
tilde = refl

tilde_of_number : is (prefixed pre.Not n) ≡ Err kind.BadType
tilde_of_number = refl

not_of : is (call (w (codes "not_")) (b ∷ [])) ≡ bool level.Own (unary one.Not (local 4))
unfolding known_word
not_of = refl

-- comparisons: numbers or bools; an Enum with the same Enum for `==`, `!=`
less : is (compare cmp.Less n b) ≡ bool level.Own (comparison cmp.Less (local 3) (local 4))
less = refl

bools_compared : is (compare cmp.GreaterEqual b q) ≡ bool level.Own (comparison cmp.GreaterEqual (local 4) (local 1))
bools_compared = refl

equal_members : is (compare cmp.Equal e d) ≡ bool level.Own (same (local 5) (local 2))
equal_members = refl

other_members : is (compare cmp.NotEqual e d) ≡ bool level.Own (unary one.Not (same (local 5) (local 2)))
other_members = refl

lower_members : is (compare cmp.Less e d) ≡ Err kind.BadType
lower_members = refl

two_enums : is (compare cmp.Equal e s) ≡ Err kind.BadType
two_enums = refl

member_and_number : is (compare cmp.Equal e n) ≡ Err kind.BadType
member_and_number = refl

-- An operation's level is the highest of its operands; own and members together have none.
constant : is (binary op.Add k k) ≡ number level.Constant (arithmetic arith.Add (local 0) (local 0))
constant = refl

of_members : is (binary op.Add m k) ≡ number level.Members (arithmetic arith.Add (local 7) (local 0))
of_members = refl

own_and_members : is (binary op.Add m n) ≡ Err kind.BadLevel
own_and_members = refl

-- operands from left to right, each whole, then the type, then the level
left_first : is (binary op.Subtract (binary op.Subtract b q) nope) ≡ Err kind.BadType
left_first = refl

right_whole : is (binary op.Add e nope) ≡ Err kind.UnknownName
unfolding known_word added_word
right_whole = refl

type_before_level : is (binary op.Subtract b t) ≡ Err kind.BadType
type_before_level = refl

-- `where(c, a, b)`: a bool, and two of one type, or a number and a bool, which give a number
chosen : is (call (w (codes "where")) (b ∷ n ∷ q ∷ [])) ≡ number level.Own (choose (local 4) (local 3) (local 1))
unfolding known_word
chosen = refl

chosen_members : is (call (w (codes "where")) (t ∷ d ∷ o ∷ [])) ≡ occupancy level.Members (choose (local 8) (local 2) (local 9))
unfolding known_word
chosen_members = refl

by_number : is (call (w (codes "where")) (n ∷ n ∷ n ∷ [])) ≡ Err kind.BadType
unfolding known_word
by_number = refl

of_two_enums : is (call (w (codes "where")) (b ∷ e ∷ s ∷ [])) ≡ Err kind.BadType
unfolding known_word
of_two_enums = refl

number_or_member : is (call (w (codes "where")) (b ∷ n ∷ e ∷ [])) ≡ Err kind.BadType
unfolding known_word
number_or_member = refl

two_levels : is (call (w (codes "where")) (b ∷ m ∷ k ∷ [])) ≡ Err kind.BadLevel
unfolding known_word
two_levels = refl

two_arguments : is (call (w (codes "where")) (b ∷ n ∷ [])) ≡ Err kind.BadType
unfolding known_word
two_arguments = refl

condition_by_keyword : is (call_with (w (codes "where")) (and_keyword (n ∷ n ∷ []) (codes "condition") b)) ≡ Err kind.BadType
unfolding known_word
condition_by_keyword = refl

-- all arguments come before their number
arguments_first : is (call (w (codes "where")) (b ∷ nope ∷ [])) ≡ Err kind.UnknownName
unfolding known_word added_word
arguments_first = refl

-- `select([c..], [v..], default=d)`: the first true one's value, else d, else 0 (False if all are bools)
abbrev select_with : Tree → Tree → Tree → Result Thing FormulaKind
select_with cs vs default = is (call_with (w (codes "select")) (and_keyword (cs ∷ vs ∷ []) (codes "default") default))

abbrev select : Tree → Tree → Result Thing FormulaKind
select cs vs = is (call (w (codes "select")) (cs ∷ vs ∷ []))

with_default : select_with (list (b ∷ q ∷ [])) (list (n ∷ q ∷ [])) k ≡ number level.Own (choose (local 4) (local 3) (choose (local 1) (local 1) (local 0)))
unfolding known_word
with_default = refl

or_zero : select (list (b ∷ [])) (list (n ∷ [])) ≡ number level.Own (choose (local 4) (local 3) (literal zero_number))
unfolding known_word
or_zero = refl

or_false : select (list (b ∷ [])) (list (q ∷ [])) ≡ bool level.Own (choose (local 4) (local 1) (truth false))
unfolding known_word
or_false = refl

number_for_bools : select_with (list (b ∷ [])) (list (q ∷ [])) n ≡ number level.Own (choose (local 4) (local 1) (local 3))
unfolding known_word
number_for_bools = refl

-- members of an Enum need a default
members_selected : select_with (list (b ∷ [])) (list (e ∷ [])) d ≡ occupancy level.Own (choose (local 4) (local 5) (local 2))
unfolding known_word
members_selected = refl

no_default : select (list (b ∷ [])) (list (e ∷ [])) ≡ Err kind.BadType
unfolding known_word
no_default = refl

-- lists of equal length from 1
unequal : select (list (b ∷ q ∷ [])) (list (n ∷ [])) ≡ Err kind.BadType
unfolding known_word
unequal = refl

empty : select (list []) (list []) ≡ Err kind.BadType
unfolding known_word
empty = refl

no_bools : select (list (n ∷ [])) (list (n ∷ [])) ≡ Err kind.BadType
unfolding known_word
no_bools = refl

no_list : select b (list (n ∷ [])) ≡ Err kind.BadType
unfolding known_word
no_list = refl

third_by_position : is (call (w (codes "select")) (list (b ∷ []) ∷ list (n ∷ []) ∷ k ∷ [])) ≡ Err kind.BadType
unfolding known_word
third_by_position = refl

other_keyword : is (call_with (w (codes "select")) (and_keyword (list (b ∷ []) ∷ list (n ∷ []) ∷ []) (codes "otherwise") k)) ≡ Err kind.BadType
unfolding known_word
other_keyword = refl

level_of_default : select_with (list (t ∷ [])) (list (m ∷ [])) n ≡ Err kind.BadLevel
unfolding known_word
level_of_default = refl

-- `min_(a, b)`, `max_(a, b)`: numbers or bools, not both bools
lower : is (call (w (codes "min_")) (n ∷ q ∷ [])) ≡ number level.Own (arithmetic arith.Min (local 3) (local 1))
unfolding known_word
lower = refl

higher : is (call (w (codes "max_")) (m ∷ k ∷ [])) ≡ number level.Members (arithmetic arith.Max (local 7) (local 0))
unfolding known_word
higher = refl

two_bools : is (call (w (codes "max_")) (b ∷ q ∷ [])) ≡ Err kind.BadType
unfolding known_word
two_bools = refl

-- `np.` and `numpy.` before `where`, `select`, `minimum`, `maximum`, `logical_not` name the same functions
numpy_minimum : is (call (dot (w (codes "numpy")) (codes "minimum")) (n ∷ q ∷ [])) ≡ number level.Own (arithmetic arith.Min (local 3) (local 1))
unfolding known_word library_function
numpy_minimum = refl

np_where : is (call (dot (w (codes "np")) (codes "where")) (b ∷ n ∷ q ∷ [])) ≡ number level.Own (choose (local 4) (local 3) (local 1))
unfolding known_word library_function
np_where = refl

np_not : is (call (dot (w (codes "np")) (codes "logical_not")) (b ∷ [])) ≡ bool level.Own (unary one.Not (local 4))
unfolding known_word library_function
np_not = refl

no_np : is (dot (w (codes "np")) (codes "foo")) ≡ Err kind.UnknownName
unfolding known_word library_function added_function
no_np = refl

alone : is (w (codes "minimum")) ≡ Err kind.UnknownName
unfolding known_word added_word
alone = refl

-- of more than two from left to right
lowest : is (call (w (codes "min_")) (n ∷ q ∷ k ∷ [])) ≡ number level.Own (arithmetic arith.Min (arithmetic arith.Min (local 3) (local 1)) (local 0))
unfolding known_word
lowest = refl

bools_first : is (call (w (codes "min_")) (b ∷ q ∷ n ∷ [])) ≡ Err kind.BadType
unfolding known_word
bools_first = refl

of_one : is (call (w (codes "min_")) (n ∷ [])) ≡ Err kind.BadType
unfolding known_word
of_one = refl

-- parentheses group alone
grouped : is (binary op.Add (group n) (group (group b))) ≡ number level.Own (arithmetic arith.Add (local 3) (local 4))
grouped = refl

-- what is no function is not called, and a function is no value
called_value : is (call n (k ∷ [])) ≡ Err kind.BadType
called_value = refl

function_as_value : is (binary op.Add (w (codes "where")) n) ≡ Err kind.BadType
unfolding known_word
function_as_value = refl

list_as_value : is (binary op.Add (list (n ∷ [])) n) ≡ Err kind.BadType
list_as_value = refl
