-- Types and levels of operations.
use Rattle.std.specs.Prelude.{ℤ, unsigned_abs, List, [], ◌∷◌, nat_le, Bool, false, ◌&&◌, if◌then◌else◌, Result, Ok}
use Rattle.fisca_num.specs.Results.{and_then}
use Rattle.fisca_ast.specs.declared.tree.Operator.{Operator}
use Rattle.fisca_ast.specs.declared.tree.Operator.TheVariants as operator
use Rattle.fisca_ast.specs.declared.tree.Comparison.{Comparison}
use Rattle.fisca_ast.specs.declared.tree.Comparison.TheVariants as cmp
use Rattle.fisca_ast.specs.declared.tree.Prefix.{Prefix}
use Rattle.fisca_ast.specs.declared.tree.Prefix.TheVariants as prefix
use Rattle.fisca_ast.specs.declared.fault.FormulaKind.{FormulaKind}
use Rattle.fisca_typing.specs.declared.kinds.Level.{Level}
use Rattle.fisca_model.specs.declared.value_type.ValueType.{ValueType}
use Rattle.fisca_model.specs.declared.value_type.ValueType.TheVariants as vt
use Rattle.fisca_typing.specs.declared.operations.Arithmetic.{Arithmetic}
use Rattle.fisca_typing.specs.declared.operations.Arithmetic.TheVariants as arith
use Rattle.fisca_typing.specs.declared.operations.Logic.{Logic}
use Rattle.fisca_typing.specs.declared.operations.Logic.TheVariants as logic
use Rattle.fisca_typing.specs.declared.operations.Unary.{Unary}
use Rattle.fisca_typing.specs.declared.operations.Unary.TheVariants as unary
use Rattle.fisca_typing.specs.Nodes.{Node, unary as unary_node, arithmetic, logic as logic_node, comparison, same, choose}
use Rattle.fisca_typing.specs.Things.{Thing, Things, Typed, value, none, more, typed, value_of}
use Rattle.fisca_typing.specs.Types.{is_numeric, is_number, is_bool, bad_type, common, higher}

-- an operation on two operands: the type of what it gives, and what works it out
pub record Operation : Type 0 where
  pub gives : ValueType
  pub node : Node → Node → Node

abbrev pub with_numbers : Arithmetic → Result Operation FormulaKind
with_numbers o = Ok (record { gives = vt.Number; node = arithmetic o })

abbrev pub with_bools : Logic → Result Operation FormulaKind
with_bools o = Ok (record { gives = vt.Bool; node = logic_node o })

abbrev pub are_bools : ValueType → ValueType → Bool
are_bools s t = is_bool s && is_bool t

abbrev pub are_numeric : ValueType → ValueType → Bool
are_numeric s t = is_numeric s && is_numeric t

-- what two bools give, and what two others of numbers and bools give
abbrev pub on_bools_or_numbers : Result Operation FormulaKind → Result Operation FormulaKind → ValueType → ValueType → Result Operation FormulaKind
on_bools_or_numbers bools numbers s t = if are_bools s t then bools else (if are_numeric s t then numbers else bad_type)

abbrev pub operation : Operator → ValueType → ValueType → Result Operation FormulaKind
operation operator.Or s t = on_bools_or_numbers (with_bools logic.Or) bad_type s t
operation operator.And s t = on_bools_or_numbers (with_bools logic.And) bad_type s t
operation operator.Add s t = on_bools_or_numbers (with_bools logic.Or) (with_numbers arith.Add) s t
operation operator.Subtract s t = on_bools_or_numbers bad_type (with_numbers arith.Subtract) s t
operation operator.Multiply s t = on_bools_or_numbers (with_bools logic.And) (with_numbers arith.Multiply) s t
operation operator.Divide s t = on_bools_or_numbers (with_numbers arith.Divide) (with_numbers arith.Divide) s t

-- the lower and the higher of two
abbrev pub extreme : Arithmetic → ValueType → ValueType → Result Operation FormulaKind
extreme o s t = on_bools_or_numbers bad_type (with_numbers o) s t

abbrev pub compares : (Node → Node → Node) → Result Operation FormulaKind
compares node = Ok (record { gives = vt.Bool; node = node })

-- members of one Enum are equal or not
abbrev pub comparison_of_members : Comparison → Result Operation FormulaKind
comparison_of_members cmp.Equal = compares same
comparison_of_members cmp.NotEqual = compares (λ a b. unary_node unary.Not (same a b))
comparison_of_members _ = bad_type

abbrev pub comparison_by : Comparison → ValueType → Result Operation FormulaKind
comparison_by o vt.Number = compares (comparison o)
comparison_by o vt.Bool = compares (comparison o)
comparison_by o (vt.Enum e) = comparison_of_members o

-- numbers and bools are compared as numbers
abbrev pub comparison_of : Comparison → ValueType → ValueType → Result Operation FormulaKind
comparison_of o s t = and_then (common s t) (comparison_by o)

-- an operation on two values: its type first, then its level
abbrev pub with_levels : Typed → Typed → Operation → Result Thing FormulaKind
with_levels a b o = and_then (higher a.level b.level) (λ l. typed o.gives l (o.node a.node b.node))

abbrev pub operated : (ValueType → ValueType → Result Operation FormulaKind) → Thing → Thing → Result Thing FormulaKind
operated by x y =
    and_then (value_of x) (λ a. and_then (value_of y) (λ b. and_then (by a.value_type b.value_type) (with_levels a b)))

-- Operations on one value

-- a number is rounded to the multiple of 10 ^ -9 that is nearest, or to that of a higher power, up to 10 ^ 9
abbrev pub is_places : ℤ → Bool
is_places n = nat_le (unsigned_abs n) 9

-- the type of the value, and of what the operation gives
abbrev pub unary_type : Unary → ValueType
unary_type unary.Not = vt.Bool
unary_type unary.Minus = vt.Number
unary_type unary.Floor = vt.Number
unary_type unary.Ceil = vt.Number
unary_type (unary.Round places) = vt.Number
unary_type unary.Absolute = vt.Number

-- whether a type is just this one: here a bool is no number
abbrev pub is_just : ValueType → ValueType → Bool
is_just vt.Number t = is_number t
is_just vt.Bool t = is_bool t
is_just (vt.Enum e) t = false

abbrev pub unary_on : Unary → Typed → Result Thing FormulaKind
unary_on o a = if is_just (unary_type o) a.value_type then typed a.value_type a.level (unary_node o a.node) else bad_type

abbrev pub unary_of : Unary → Thing → Result Thing FormulaKind
unary_of o x = and_then (value_of x) (unary_on o)

-- a prefix

abbrev pub prefixed_by : Prefix → Typed → Result Thing FormulaKind
prefixed_by prefix.Plus a = if is_number a.value_type then Ok (value a) else bad_type
prefixed_by prefix.Minus a = unary_on unary.Minus a
prefixed_by prefix.Not a = unary_on unary.Not a

abbrev pub prefixed_value : Prefix → Thing → Result Thing FormulaKind
prefixed_value p x = and_then (value_of x) (prefixed_by p)

-- One or the other, by a condition

abbrev pub bool_of : Thing → Result Typed FormulaKind
bool_of x = and_then (value_of x) (λ v. if is_bool v.value_type then Ok v else bad_type)

abbrev pub numeric_of : Thing → Result Typed FormulaKind
numeric_of x = and_then (value_of x) (λ v. if is_numeric v.value_type then Ok v else bad_type)

abbrev pub typed_all : Things → Result (List Typed) FormulaKind
typed_all none = Ok []
typed_all (more x xs) = and_then (value_of x) (λ v. and_then (typed_all xs) (λ vs. Ok (v ∷ vs)))

-- the common type of a first and more
abbrev pub common_all : ValueType → List Typed → Result ValueType FormulaKind
common_all t [] = Ok t
common_all t (v ∷ vs) = and_then (common t v.value_type) (λ s. common_all s vs)

abbrev pub highest : Level → List Typed → Result Level FormulaKind
highest l [] = Ok l
highest l (v ∷ vs) = and_then (higher l v.level) (λ m. highest m vs)

abbrev pub where_of : Typed → Typed → Typed → Result Thing FormulaKind
where_of c a b =
    and_then (if is_bool c.value_type then common a.value_type b.value_type else bad_type) (λ t.
    and_then (highest c.level (a ∷ b ∷ [])) (λ l. typed t l (choose c.node a.node b.node)))
