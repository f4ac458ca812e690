-- What operations make of values.
use Rattle.std.specs.Prelude.{Bool, not, ◌&&◌, ◌||◌, ◌==◌, if◌then◌else◌, Result, Ok}
use Rattle.std.specs.Ordering.{is_lt, is_gt, is_eq}
use Rattle.fisca_num.specs.Number.{Number, number_cmp, negation_of}
use Rattle.fisca_num.specs.Rounding.{abs_of, ceil_of, floor_of, number_of_whole, rounded_to}
use Rattle.fisca_num.specs.declared.faults.NumFault.{NumFault}
use Rattle.fisca_num.specs.Operations.{sum_of, difference_of, product_of, quotient_of}
use Rattle.fisca_ast.specs.declared.tree.Comparison.{Comparison}
use Rattle.fisca_ast.specs.declared.tree.Comparison.TheVariants as cmp
use Rattle.fisca_typing.specs.declared.operations.Arithmetic.{Arithmetic}
use Rattle.fisca_typing.specs.declared.operations.Arithmetic.TheVariants as arith
use Rattle.fisca_typing.specs.declared.operations.Logic.{Logic}
use Rattle.fisca_typing.specs.declared.operations.Logic.TheVariants as logic
use Rattle.fisca_typing.specs.declared.operations.Unary.{Unary}
use Rattle.fisca_typing.specs.declared.operations.Unary.TheVariants as unary
use Rattle.fisca_model.specs.Values.{Value, number, bool}
use Rattle.fisca_typing.specs.Operations.{is_places}
use Rattle.fisca_key_semantics.specs.Dialogues.{Dialogue, gives, stuck, computed, with_number, with_bool, with_member}

abbrev pub lower : Number → Number → Number
lower a b = if is_gt (number_cmp a b) then b else a

abbrev pub greater : Number → Number → Number
greater a b = if is_lt (number_cmp a b) then b else a

abbrev pub number_by : Arithmetic → Number → Number → Result Number NumFault
number_by arith.Add a b = sum_of a b
number_by arith.Subtract a b = difference_of a b
number_by arith.Multiply a b = product_of a b
number_by arith.Divide a b = quotient_of a b
number_by arith.Min a b = Ok (lower a b)
number_by arith.Max a b = Ok (greater a b)

abbrev pub bool_by : Logic → Bool → Bool → Bool
bool_by logic.Or a b = a || b
bool_by logic.And a b = a && b

abbrev pub holds : Comparison → Number → Number → Bool
holds cmp.Less a b = is_lt (number_cmp a b)
holds cmp.LessEqual a b = not (is_gt (number_cmp a b))
holds cmp.Greater a b = is_gt (number_cmp a b)
holds cmp.GreaterEqual a b = not (is_lt (number_cmp a b))
holds cmp.Equal a b = is_eq (number_cmp a b)
holds cmp.NotEqual a b = not (is_eq (number_cmp a b))

abbrev pub arithmetic_of : Arithmetic → Value → Value → Dialogue
arithmetic_of o x y = with_number x (λ a. with_number y (λ b. computed (number_by o a b)))

abbrev pub logic_of : Logic → Value → Value → Dialogue
logic_of o x y = with_bool x (λ a. with_bool y (λ b. gives (bool (bool_by o a b))))

abbrev pub comparison_of : Comparison → Value → Value → Dialogue
comparison_of o x y = with_number x (λ a. with_number y (λ b. gives (bool (holds o a b))))

abbrev pub same_of : Value → Value → Dialogue
same_of x y = with_member x (λ i. with_member y (λ j. gives (bool (i == j))))

-- of one value
abbrev pub unary_of : Unary → Value → Dialogue
unary_of unary.Not x = with_bool x (λ b. gives (bool (not b)))
unary_of unary.Minus x = with_number x (λ a. gives (number (negation_of a)))
unary_of unary.Floor x = with_number x (λ a. computed (number_of_whole (floor_of a)))
unary_of unary.Ceil x = with_number x (λ a. computed (number_of_whole (ceil_of a)))
unary_of (unary.Round places) x = if is_places places then with_number x (λ a. computed (rounded_to places a)) else stuck
unary_of unary.Absolute x = with_number x (λ a. gives (number (abs_of a)))
