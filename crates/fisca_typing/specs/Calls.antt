-- Calls of functions, and what stands in their parentheses.
use Rattle.std.specs.Prelude.{ℕ, suc, ℤ, pos, List, [], ◌∷◌, length, Bool, true, false, ◌==◌, ◌&&◌, if◌then◌else◌, Option, Some, None, ok_or, Result, Ok, codes}
use Rattle.fisca_num.specs.Number.{zero_number}
use Rattle.fisca_ast.specs.Words.{is}
use Rattle.fisca_ast.specs.Tree.{Tree}
use Rattle.fisca_ast.specs.declared.tree.Operator.{Operator}
use Rattle.fisca_ast.specs.declared.tree.Operator.TheVariants as operator
use Rattle.fisca_num.specs.Results.{and_then}
use Rattle.fisca_ast.specs.declared.fault.FormulaKind.{FormulaKind}
use Rattle.fisca_ast.specs.declared.fault.FormulaKind.TheVariants as kind
use Rattle.fisca_typing.specs.declared.kinds.Level.TheVariants as level
use Rattle.fisca_model.specs.declared.value_type.ValueType.{ValueType}
use Rattle.fisca_model.specs.declared.value_type.ValueType.TheVariants as vt
use Rattle.fisca_typing.specs.declared.moves.Move.{Move}
use Rattle.fisca_typing.specs.declared.operations.Arithmetic.{Arithmetic}
use Rattle.fisca_typing.specs.declared.operations.Arithmetic.TheVariants as arith
use Rattle.fisca_typing.specs.declared.operations.Function.{Function}
use Rattle.fisca_typing.specs.declared.operations.Function.TheVariants as function
use Rattle.fisca_typing.specs.declared.operations.Unary.{Unary}
use Rattle.fisca_typing.specs.declared.operations.Unary.TheVariants as unary
use Rattle.fisca_typing.specs.Nodes.{Node, literal, truth, choose, scale_sum}
use Rattle.fisca_typing.specs.Operations.{operated, operation, extreme, is_places, unary_of, numeric_of, common_all, highest, typed_all, where_of}
use Rattle.fisca_typing.specs.Parameters.{root_at}
use Rattle.fisca_typing.specs.Periods.{offset_by, offset_by_unit, whole}
use Rattle.fisca_model.specs.Tables.{Tables}
use Rattle.fisca_typing.specs.Things.{Thing, Typed, typed, value_of, things_of, instant_of, text_of}
use Rattle.fisca_typing.specs.Types.{is_bool, bad_type, common}

-- an argument: its keyword if it has one, how it is written, and what it stands for
pub record CallArgument : Type 0 where
  pub keyword : Option (List ℕ)
  pub tree : Tree
  pub thing : Result Thing FormulaKind

-- the same where it stands for something
pub record Settled : Type 0 where
  pub keyword : Option (List ℕ)
  pub tree : Tree
  pub thing : Thing

abbrev pub settled : List CallArgument → Result (List Settled) FormulaKind
settled [] = Ok []
settled (g ∷ gs) =
    and_then g.thing (λ x. and_then (settled gs) (λ ss. Ok (record { keyword = g.keyword; tree = g.tree; thing = x } ∷ ss)))

-- arguments by position
pub data Positions : Type 0 where
  by_position : List Settled → Positions
  -- and one by this keyword
  and_keyword : List Settled → List ℕ → Thing → Positions
  more_keywords : Positions

abbrev pub before_keyword : List ℕ → Thing → List Settled → Positions
before_keyword k x [] = and_keyword [] k x
before_keyword k x (s ∷ ss) = more_keywords

abbrev pub in_front : Settled → Positions → Positions
in_front s (by_position ss) = by_position (s ∷ ss)
in_front s (and_keyword ss k x) = and_keyword (s ∷ ss) k x
in_front s more_keywords = more_keywords

abbrev pub put : Option (List ℕ) → Settled → List Settled → Positions → Positions
put None s ss others = in_front s others
put (Some k) s ss others = before_keyword k s.thing ss

-- arguments by keyword come last
abbrev pub positions : List Settled → Positions
positions [] = by_position []
positions (s ∷ ss) = put s.keyword s ss (positions ss)

-- `select`

abbrev pub all_bools : List Typed → Bool
all_bools [] = true
all_bools (v ∷ vs) = is_bool v.value_type && all_bools vs

-- the value of the first true condition, else the last one
abbrev pub selected : List Typed → List Typed → Node → Node
selected [] vs rest = rest
selected (c ∷ cs) [] rest = rest
selected (c ∷ cs) (v ∷ vs) rest = choose c.node v.node (selected cs vs rest)

abbrev pub nothing_selected : ValueType → Result Node FormulaKind
nothing_selected vt.Number = Ok (literal zero_number)
nothing_selected vt.Bool = Ok (truth false)
nothing_selected (vt.Enum e) = bad_type

abbrev pub select_typed : ValueType → List Typed → List Typed → List Typed → Node → Result Thing FormulaKind
select_typed t cs vs ds rest =
    and_then (highest level.Constant cs) (λ l. and_then (highest l vs) (λ m. and_then (highest m ds) (λ n. typed t n (selected cs vs rest))))

-- without a default: 0, or False where all are bools; members of an Enum need one
abbrev pub select_default : ValueType → List Typed → List Typed → Option Typed → Result Thing FormulaKind
select_default t cs vs None = and_then (nothing_selected t) (select_typed t cs vs [])
select_default t cs vs (Some d) = and_then (common t d.value_type) (λ s. select_typed s cs vs (d ∷ []) d.node)

abbrev pub select_values : List Typed → List Typed → Option Typed → Result Thing FormulaKind
select_values cs [] d = bad_type
select_values cs (v ∷ vs) d =
    if all_bools cs && (length cs == suc (length vs)) then and_then (common_all v.value_type vs) (λ t. select_default t cs (v ∷ vs) d) else bad_type

abbrev pub select_of : Thing → Thing → Result (Option Typed) FormulaKind → Result Thing FormulaKind
select_of cs vs default =
    and_then (things_of cs) (λ xs. and_then (typed_all xs) (λ us.
    and_then (things_of vs) (λ ys. and_then (typed_all ys) (λ ws.
    and_then default (λ d. select_values us ws d)))))

abbrev pub default_in : List ℕ → Thing → Result (Option Typed) FormulaKind
default_in k x = if is k (codes "default") then and_then (value_of x) (λ v. Ok (Some v)) else bad_type

-- Functions by their names

abbrev pub where_by : Positions → Result Thing FormulaKind
where_by (by_position (c ∷ a ∷ b ∷ [])) =
    and_then (value_of c.thing) (λ x. and_then (value_of a.thing) (λ y. and_then (value_of b.thing) (λ z. where_of x y z)))
where_by (by_position _) = bad_type
where_by (and_keyword ss k x) = bad_type
where_by more_keywords = bad_type

abbrev pub select_by : Positions → Result Thing FormulaKind
select_by (by_position (c ∷ v ∷ [])) = select_of c.thing v.thing (Ok None)
select_by (by_position _) = bad_type
select_by (and_keyword (c ∷ v ∷ []) k x) = select_of c.thing v.thing (default_in k x)
select_by (and_keyword _ k x) = bad_type
select_by more_keywords = bad_type

-- one argument by position, and nothing else
abbrev pub alone : Positions → Result Settled FormulaKind
alone (by_position (s ∷ [])) = Ok s
alone (by_position _) = bad_type
alone (and_keyword ss k x) = bad_type
alone more_keywords = bad_type

abbrev pub two : Positions → (Settled → Settled → Result Thing FormulaKind) → Result Thing FormulaKind
two (by_position (a ∷ b ∷ [])) f = f a b
two (by_position _) f = bad_type
two (and_keyword ss k x) f = bad_type
two more_keywords f = bad_type

abbrev pub unary_by : Unary → Positions → Result Thing FormulaKind
unary_by o ps = and_then (alone ps) (λ s. unary_of o s.thing)

abbrev pub operator_by : Operator → Positions → Result Thing FormulaKind
operator_by o ps = two ps (λ a b. operated (operation o) a.thing b.thing)

-- `min_` and `max_`: from left to right, each with what those before it give
abbrev pub extreme_all : Arithmetic → Thing → List Settled → Result Thing FormulaKind
extreme_all o x [] = Ok x
extreme_all o x (s ∷ ss) = and_then (operated (extreme o) x s.thing) (λ y. extreme_all o y ss)

abbrev pub extreme_by : Arithmetic → Positions → Result Thing FormulaKind
extreme_by o (by_position (a ∷ b ∷ ss)) = extreme_all o a.thing (b ∷ ss)
extreme_by o (by_position _) = bad_type
extreme_by o (and_keyword ss k x) = bad_type
extreme_by o more_keywords = bad_type

-- as many decimal places as are written
abbrev pub places_of : Tree → Result ℤ FormulaKind
places_of k = and_then (ok_or (whole k) kind.BadType) (λ n. if is_places n then Ok n else bad_type)

abbrev pub rounded : Thing → ℤ → Result Thing FormulaKind
rounded x n = unary_of (unary.Round n) x

abbrev pub round_by : Positions → Result Thing FormulaKind
round_by (by_position (x ∷ [])) = rounded x.thing (pos 0)
round_by (by_position (x ∷ n ∷ [])) = and_then (places_of n.tree) (rounded x.thing)
round_by (by_position _) = bad_type
round_by (and_keyword ss k x) = bad_type
round_by more_keywords = bad_type

-- the number, but no lower than the one bound, and of that no higher than the other
abbrev pub clipped : Thing → Thing → Thing → Result Thing FormulaKind
clipped x low high = and_then (operated (extreme arith.Max) x low) (λ y. operated (extreme arith.Min) y high)

abbrev pub clip_by : Positions → Result Thing FormulaKind
clip_by (by_position (x ∷ low ∷ high ∷ [])) = clipped x.thing low.thing high.thing
clip_by (by_position _) = bad_type
clip_by (and_keyword ss k x) = bad_type
clip_by more_keywords = bad_type

abbrev pub function_by : Function → Positions → Result Thing FormulaKind
function_by function.Where ps = where_by ps
function_by function.Select ps = select_by ps
function_by function.Min ps = extreme_by arith.Min ps
function_by function.Max ps = extreme_by arith.Max ps
function_by function.Clip ps = clip_by ps
function_by function.Not ps = unary_by unary.Not ps
function_by function.And ps = operator_by operator.And ps
function_by function.Or ps = operator_by operator.Or ps
function_by function.Floor ps = unary_by unary.Floor ps
function_by function.Ceil ps = unary_by unary.Ceil ps
function_by function.Round ps = round_by ps
function_by function.Absolute ps = unary_by unary.Absolute ps

-- `p.offset(k)`, `p.offset(k, "month")`
abbrev pub offset_of : List Move → Positions → Result Thing FormulaKind
offset_of ms (by_position (k ∷ [])) = offset_by ms k.tree
offset_of ms (by_position (k ∷ u ∷ [])) = and_then (text_of u.thing) (offset_by_unit ms k.tree)
offset_of ms (by_position _) = bad_type
offset_of ms (and_keyword ss k x) = bad_type
offset_of ms more_keywords = bad_type

-- `parameters(p)`, `parameters(p.start)`
abbrev pub reader_by : Tables → Positions → Result Thing FormulaKind
reader_by c ps = and_then (alone ps) (λ s. and_then (instant_of s.thing) (root_at c.nodes))

-- `scale.calc(x)`
abbrev pub calculation_by : ℕ → List Move → Positions → Result Thing FormulaKind
calculation_by place ms ps =
    and_then (alone ps) (λ s. and_then (numeric_of s.thing) (λ v. typed vt.Number v.level (scale_sum place ms v.node)))
