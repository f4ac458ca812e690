-- Functions that this project adds, beside their sentences.
use Rattle.std.proofs.Common.{◌≡◌, pos, negsuc, [], ◌∷◌, false, refl, sym, lit<}
use Rattle.std.specs.Prelude.{codes, Ok, Err, Result}
use Rattle.fisca_num.specs.Literal.{number_of_literal, number_of_parts, digits_ratio}
use Rattle.fisca_num.specs.Number.{Number, one_number, whole_number}
use Rattle.fisca_num.specs.Operations.{only_number_of}
use Rattle.fisca_ast.specs.Tree.{Tree, number as digits, prefixed}
use Rattle.fisca_ast.specs.declared.tree.Prefix.TheVariants as pre
use Rattle.fisca_ast.specs.declared.fault.FormulaKind.{FormulaKind}
use Rattle.fisca_ast.specs.declared.fault.FormulaKind.TheVariants as kind
use Rattle.fisca_typing.specs.declared.kinds.Level.TheVariants as level
use Rattle.fisca_typing.specs.declared.operations.Arithmetic.TheVariants as arith
use Rattle.fisca_typing.specs.declared.operations.Logic.TheVariants as logic
use Rattle.fisca_typing.specs.declared.operations.Unary.TheVariants as one
use Rattle.fisca_typing.specs.Names.{known_word, added_word, library_function, added_function}
use Rattle.fisca_typing.specs.Nodes.{local, unary, arithmetic, logic as both}
use Rattle.fisca_typing.specs.Things.{Thing}
use Rattle.fisca_typing.specs.Typing.{thing_of}
use Rattle.fisca_typing.proofs.Examples.{of_household, k, q, n, b, m, w, call, dot, number, bool}

abbrev is : Tree → Result Thing FormulaKind
is x = thing_of of_household x

once : number_of_literal (codes "1") ≡ Ok one_number
unfolding number_of_literal number_of_parts
once = sym (only_number_of (digits_ratio false (codes "1") []) (Ok one_number) (record { some = lit< tt; same = refl; lowest = one_number.lowest }))

abbrev ten_number : Number
ten_number = whole_number (pos 10) (lit< tt)

ten : number_of_literal (codes "10") ≡ Ok ten_number
unfolding number_of_literal number_of_parts
ten = sym (only_number_of (digits_ratio false (codes "10") []) (Ok ten_number) (record { some = lit< tt; same = refl; lowest = ten_number.lowest }))

-- `floor(a)`, `ceil(a)`, `abs_(a)`: a number, at its level
floor_of : is (call (w (codes "floor")) (m ∷ [])) ≡ number level.Members (unary one.Floor (local 7))
unfolding known_word added_word
floor_of = refl

ceil_of : is (call (dot (w (codes "np")) (codes "ceil")) (n ∷ [])) ≡ number level.Own (unary one.Ceil (local 3))
unfolding known_word library_function added_function
ceil_of = refl

absolute : is (call (w (codes "abs_")) (n ∷ [])) ≡ number level.Own (unary one.Absolute (local 3))
unfolding known_word added_word
absolute = refl

floor_of_bool : is (call (w (codes "floor")) (b ∷ [])) ≡ Err kind.BadType
unfolding known_word added_word
floor_of_bool = refl

floor_of_two : is (call (w (codes "floor")) (n ∷ k ∷ [])) ≡ Err kind.BadType
unfolding known_word added_word
floor_of_two = refl

-- `round_(a)`, and to a number of places that is written
nearest : is (call (w (codes "round_")) (n ∷ [])) ≡ number level.Own (unary (one.Round (pos 0)) (local 3))
unfolding known_word added_word
nearest = refl

tenths : is (call (dot (w (codes "np")) (codes "round")) (n ∷ digits (codes "1") ∷ [])) ≡ number level.Own (unary (one.Round (pos 1)) (local 3))
unfolding known_word library_function added_function
tenths = rw (once, once) refl

tens : is (call (w (codes "round_")) (n ∷ prefixed pre.Minus (digits (codes "1")) ∷ [])) ≡ number level.Own (unary (one.Round (negsuc 0)) (local 3))
unfolding known_word added_word
tens = rw (once, once) refl

ten_places : is (call (w (codes "round_")) (n ∷ digits (codes "10") ∷ [])) ≡ Err kind.BadType
unfolding known_word added_word
ten_places = rw (ten, ten) refl

places_of_a_local : is (call (w (codes "round_")) (n ∷ k ∷ [])) ≡ Err kind.BadType
unfolding known_word added_word
places_of_a_local = refl

-- `clip(a, low, high)`
between : is (call (w (codes "clip")) (n ∷ k ∷ m ∷ [])) ≡ Err kind.BadLevel
unfolding known_word added_word
between = refl

within : is (call (w (codes "clip")) (m ∷ k ∷ k ∷ [])) ≡ number level.Members (arithmetic arith.Min (arithmetic arith.Max (local 7) (local 0)) (local 0))
unfolding known_word added_word
within = refl

two_to_clip : is (call (w (codes "clip")) (n ∷ k ∷ [])) ≡ Err kind.BadType
unfolding known_word added_word
two_to_clip = refl

-- `np.logical_and(a, b)`, `np.logical_or(a, b)`: as `&` and `|`
both_of : is (call (dot (w (codes "np")) (codes "logical_and")) (b ∷ q ∷ [])) ≡ bool level.Own (both logic.And (local 4) (local 1))
unfolding known_word library_function added_function
both_of = refl

either_of_numbers : is (call (dot (w (codes "np")) (codes "logical_or")) (n ∷ q ∷ [])) ≡ Err kind.BadType
unfolding known_word library_function added_function
either_of_numbers = refl
