-- What typed formulas mean.
use Rattle.std.specs.Prelude.{ℕ, ◌+◌, ◌*◌, List, [], ◌∷◌, ◌++◌, length, slice_get, true, false, if◌then◌else◌, Option, Some, None, Result, Ok, Err}
use Rattle.fisca_num.specs.Number.{Number, zero_number}
use Rattle.fisca_params.specs.Lookup.{value_in, sum_in}
use Rattle.fisca_params.specs.Tree.{content_at}
use Rattle.fisca_params.specs.declared.content.ParamValue.{ParamValue}
use Rattle.fisca_params.specs.declared.content.ParamValue.TheVariants as param
use Rattle.fisca_scales.specs.declared.fault.ParamFault.{ParamFault}
use Rattle.fisca_scales.specs.declared.fault.ParamFault.TheVariants as fault
use Rattle.fisca_typing.specs.declared.operations.Arithmetic.TheVariants as arith
use Rattle.fisca_typing.specs.declared.operations.Logic.TheVariants as logic
use Rattle.fisca_typing.specs.declared.operations.Total.{Total}
use Rattle.fisca_typing.specs.declared.operations.Total.TheVariants as total
use Rattle.fisca_typing.specs.Formulas.{Formula}
use Rattle.fisca_typing.specs.Nodes.{Node, Indices, no_index, index}
use Rattle.fisca_typing.specs.Nodes as node
use Rattle.fisca_model.specs.Tables.{Tables}
use Rattle.fisca_typing.specs.Answers.{arithmetic_of, logic_of, comparison_of, same_of, unary_of}
use Rattle.fisca_model.specs.Values.{Value, number, bool, member}
use Rattle.fisca_key_semantics.specs.Dialogues.{OperationFault, Dialogue, gives, fails, stuck, ◌>>=◌, with_number, with_bool, with_member, fault_of, bad_scale, parameter_undefined, no_member}
use Rattle.fisca_model.specs.Groups.{Groups, Point, has, persons_at}
use Rattle.fisca_typing.specs.Questions.{at_period, at_start, part_of, counted, ask_known, person_of, persons_in}

-- Parameters

abbrev pub parameter_value : Option ParamValue → Dialogue
parameter_value None = fails parameter_undefined
parameter_value (Some (param.Number n)) = gives (number n)
parameter_value (Some (param.Bool b)) = gives (bool b)

-- sums tell the last three before memory alone
abbrev pub scale_fault : ParamFault → OperationFault
scale_fault fault.Undefined = parameter_undefined
scale_fault (fault.Number e) = fault_of e
scale_fault _ = bad_scale

abbrev pub scale_value : Result Number ParamFault → Dialogue
scale_value (Ok n) = gives (number n)
scale_value (Err e) = fails (scale_fault e)

abbrev pub at_place : Option ℕ → (ℕ → Dialogue) → Dialogue
at_place None f = stuck
at_place (Some place) f = f place

-- Persons

abbrev pub at_person : Point → ℕ → Point
at_person p m = record p { person = Some m }

-- each person in turn; none is skipped
abbrev pub in_turn : (Value → Value → Dialogue) → (ℕ → Dialogue) → List ℕ → Value → Dialogue
in_turn step each [] sum = gives sum
in_turn step each (m ∷ ms) sum = each m >>= λ x. step sum x >>= λ s. in_turn step each ms s

abbrev pub from_first : (Value → Value → Dialogue) → (ℕ → Dialogue) → List ℕ → Dialogue
from_first step each [] = fails no_member
from_first step each (m ∷ ms) = each m >>= λ x. with_number x (λ n. in_turn step each ms (number n))

abbrev pub total_over : Total → (ℕ → Dialogue) → List ℕ → Dialogue
total_over total.Sum each ms = in_turn (arithmetic_of arith.Add) each ms (number zero_number)
total_over total.Min each ms = from_first (arithmetic_of arith.Min) each ms
total_over total.Max each ms = from_first (arithmetic_of arith.Max) each ms
total_over total.Any each ms = in_turn (logic_of logic.Or) each ms (bool false)
total_over total.All each ms = in_turn (logic_of logic.And) each ms (bool true)

-- Locals mean what they mean at the point where they are used.
abbrev pub Locals : Type 0
Locals = List (Point → Dialogue)

abbrev pub local_at : Option (Point → Dialogue) → Point → Dialogue
local_at None p = stuck
local_at (Some d) p = d p

abbrev pub chosen : Value → Dialogue → Dialogue → Dialogue
chosen x a b = with_bool x (λ q. if q then a else b)

-- Operands are worked out from left to right, none skipped; of `choose` the branch that is taken alone.
abbrev mutual
  pub mean : Tables → Groups → Locals → Node → Point → Dialogue
  mean c g ls (node.literal n) p = gives (number n)
  mean c g ls (node.truth b) p = gives (bool b)
  mean c g ls (node.member e i) p = gives (member i)
  mean c g ls (node.local i) p = local_at (slice_get ls i) p
  mean c g ls (node.date_part d ms) p = at_start ms p.period (λ day. counted (part_of d day))
  mean c g ls (node.ask v w how ms) p = at_period ms p.period (λ q. ask_known g p w how v q (slice_get c.variables v))
  mean c g ls (node.has_role e r) p = gives (bool (has r (g.role_of e (person_of p))))
  mean c g ls (node.count e r) p = counted (length (persons_in g p e r))
  mean c g ls (node.total o r a) p = total_over o (λ m. mean c g ls a (at_person p m)) (persons_at g p r)
  mean c g ls (node.unary o a) p = mean c g ls a p >>= unary_of o
  mean c g ls (node.arithmetic o a b) p = mean c g ls a p >>= λ x. mean c g ls b p >>= λ y. arithmetic_of o x y
  mean c g ls (node.logic o a b) p = mean c g ls a p >>= λ x. mean c g ls b p >>= λ y. logic_of o x y
  mean c g ls (node.comparison o a b) p = mean c g ls a p >>= λ x. mean c g ls b p >>= λ y. comparison_of o x y
  mean c g ls (node.same a b) p = mean c g ls a p >>= λ x. mean c g ls b p >>= λ y. same_of x y
  mean c g ls (node.choose q a b) p = mean c g ls q p >>= λ x. chosen x (mean c g ls a p) (mean c g ls b p)
  mean c g ls (node.parameter is places ms) p =
      at_start ms p.period (λ day. at_index c g ls is 0 p (λ i. at_place (slice_get places i) (λ place. parameter_value (value_in (content_at c.nodes place) day))))
  mean c g ls (node.scale_sum place ms a) p =
      at_start ms p.period (λ day. mean c g ls a p >>= λ x. with_number x (λ n. scale_value (sum_in (content_at c.nodes place) day n)))

  -- indices from left to right, in the order of the parameters that they choose among
  pub at_index : Tables → Groups → Locals → Indices → ℕ → Point → (ℕ → Dialogue) → Dialogue
  at_index c g ls no_index i p f = f i
  at_index c g ls (index n size is) i p f = mean c g ls n p >>= λ x. with_member x (λ j. at_index c g ls is (i * size + j) p f)

-- the locals that have values, in order, each with those before it, and then the result
abbrev pub mean_from : Tables → Groups → Locals → List Node → Node → Point → Dialogue
mean_from c g ls [] result p = mean c g ls result p
mean_from c g ls (n ∷ ns) result p = mean_from c g (ls ++ (λ q. mean c g ls n q) ∷ []) ns result p

abbrev pub formula_means : Tables → Groups → Formula → Point → Dialogue
formula_means c g f p = mean_from c g [] f.values f.result p
