-- What typed formulas mean, with what they read: as `mean` has it, and each parameter and scale is noted where its value is taken.
use Rattle.std.specs.Prelude.{ℕ, zero, suc, ◌+◌, ◌*◌, ◌==◌, List, [], ◌∷◌, length, slice_get, true, false, if◌then◌else◌, Option, Some, None, Result, Ok, Err}
use Rattle.fisca_num.specs.Number.{Number, zero_number, one_number}
use Rattle.fisca_params.specs.Lookup.{value_in, sum_in}
use Rattle.fisca_params.specs.Tree.{content_at}
use Rattle.fisca_time.specs.Instant.{CivilDate}
use Rattle.fisca_time.specs.Period.{Span, start_of}
use Rattle.fisca_time.specs.declared.fault.TimeFault.{TimeFault}
use Rattle.fisca_typing.specs.declared.moves.Move.{Move}
use Rattle.fisca_typing.specs.declared.operations.Arithmetic.TheVariants as arith
use Rattle.fisca_typing.specs.declared.operations.Logic.TheVariants as logic
use Rattle.fisca_typing.specs.declared.operations.Total.{Total}
use Rattle.fisca_typing.specs.declared.operations.Total.TheVariants as total
use Rattle.fisca_typing.specs.Formulas.{Formula}
use Rattle.fisca_typing.specs.Nodes.{Node, Indices, no_index, index}
use Rattle.fisca_typing.specs.Nodes as node
use Rattle.fisca_model.specs.Tables.{Tables}
use Rattle.fisca_model.specs.Values.{Value, number, bool, member}
use Rattle.fisca_model.specs.Groups.{Groups, Point, has, persons_at}
use Rattle.fisca_typing.specs.Answers.{arithmetic_of, logic_of, comparison_of, same_of, unary_of}
use Rattle.fisca_typing.specs.Meaning.{at_person, parameter_value, scale_value}
use Rattle.fisca_typing.specs.Questions.{moved_all, part_of, counted, ask_known, person_of, persons_in, in_range as plain_in_range, at_period as plain_at_period}
use Rattle.fisca_key_semantics.specs.Dialogues.{Dialogue, no_member, period_out_of_range}
use Rattle.fisca_simulation.specs.Noted.{Noted, gives, fails, stuck, reads, behind, unread}
use Rattle.fisca_simulation.specs.declared.note.Reading.{Reading}

abbrev pub with_number : Value → (Number → Noted) → Noted
with_number (number n) f = f n
with_number (bool true) f = f one_number
with_number (bool false) f = f zero_number
with_number (member i) f = stuck

abbrev pub with_member : Value → (ℕ → Noted) → Noted
with_member (number n) f = stuck
with_member (bool b) f = stuck
with_member (member i) f = f i

abbrev pub chosen : Value → Noted → Noted → Noted
chosen (number n) a b = stuck
chosen (bool true) a b = a
chosen (bool false) a b = b
chosen (member i) a b = stuck

-- eternity has no start
abbrev pub on_start : Option CivilDate → (CivilDate → Noted) → Noted
on_start None f = fails period_out_of_range
on_start (Some d) f = f d

abbrev pub in_range : Result Span TimeFault → (Span → Noted) → Noted
in_range (Ok q) f = f q
in_range (Err e) f = fails period_out_of_range

abbrev pub at_start : List Move → Span → (CivilDate → Noted) → Noted
at_start ms p f = in_range (moved_all ms p) (λ q. on_start (start_of q) f)

-- Parameters

abbrev pub parameter_read : ℕ → CivilDate → Reading
parameter_read place day = record { place = place; day = day; base = None }

abbrev pub scale_read : ℕ → CivilDate → Number → Reading
scale_read place day n = record { place = place; day = day; base = Some n }

abbrev pub parameter_at : Tables → Option ℕ → CivilDate → Noted
parameter_at c None day = stuck
parameter_at c (Some place) day = reads (parameter_read place day) (unread (parameter_value (value_in (content_at c.nodes place) day)))

abbrev pub scale_at : Tables → ℕ → CivilDate → Value → Noted
scale_at c place day x = with_number x (λ n. reads (scale_read place day n) (unread (scale_value (sum_in (content_at c.nodes place) day n))))

-- Persons

abbrev pub in_turn : (Value → Value → Dialogue) → (ℕ → Noted) → List ℕ → Value → Noted
in_turn step each [] sum = gives sum
in_turn step each (m ∷ ms) sum = behind (each m) (λ x. behind (unread (step sum x)) (λ s. in_turn step each ms s))

abbrev pub from_first : (Value → Value → Dialogue) → (ℕ → Noted) → List ℕ → Noted
from_first step each [] = fails no_member
from_first step each (m ∷ ms) = behind (each m) (λ x. with_number x (λ n. in_turn step each ms (number n)))

abbrev pub total_over : Total → (ℕ → Noted) → List ℕ → Noted
total_over total.Sum each ms = in_turn (arithmetic_of arith.Add) each ms (number zero_number)
total_over total.Min each ms = from_first (arithmetic_of arith.Min) each ms
total_over total.Max each ms = from_first (arithmetic_of arith.Max) each ms
total_over total.Any each ms = in_turn (logic_of logic.Or) each ms (bool false)
total_over total.All each ms = in_turn (logic_of logic.And) each ms (bool true)

-- what a local means, by how many with a value come before it
abbrev pub Locals : Type 0
Locals = ℕ → Point → Noted

abbrev pub of_two : (Value → Value → Dialogue) → Noted → Noted → Noted
of_two f a b = behind a (λ x. behind b (λ y. unread (f x y)))

abbrev mutual
  pub noted : Tables → Groups → Locals → Node → Point → Noted
  noted c g ls (node.literal n) p = gives (number n)
  noted c g ls (node.truth b) p = gives (bool b)
  noted c g ls (node.member e i) p = gives (member i)
  noted c g ls (node.local i) p = ls i p
  noted c g ls (node.date_part d ms) p = at_start ms p.period (λ day. unread (counted (part_of d day)))
  noted c g ls (node.ask v w how ms) p = unread (plain_at_period ms p.period (λ q. ask_known g p w how v q (slice_get c.variables v)))
  noted c g ls (node.has_role e r) p = gives (bool (has r (g.role_of e (person_of p))))
  noted c g ls (node.count e r) p = unread (counted (length (persons_in g p e r)))
  noted c g ls (node.total o r a) p = total_over o (λ m. noted c g ls a (at_person p m)) (persons_at g p r)
  noted c g ls (node.unary o a) p = behind (noted c g ls a p) (λ x. unread (unary_of o x))
  noted c g ls (node.arithmetic o a b) p = of_two (arithmetic_of o) (noted c g ls a p) (noted c g ls b p)
  noted c g ls (node.logic o a b) p = of_two (logic_of o) (noted c g ls a p) (noted c g ls b p)
  noted c g ls (node.comparison o a b) p = of_two (comparison_of o) (noted c g ls a p) (noted c g ls b p)
  noted c g ls (node.same a b) p = of_two same_of (noted c g ls a p) (noted c g ls b p)
  noted c g ls (node.choose q a b) p = behind (noted c g ls q p) (λ x. chosen x (noted c g ls a p) (noted c g ls b p))
  noted c g ls (node.parameter is places ms) p = at_start ms p.period (λ day. noted_index c g ls is 0 p (λ i. parameter_at c (slice_get places i) day))
  noted c g ls (node.scale_sum place ms a) p = at_start ms p.period (λ day. behind (noted c g ls a p) (scale_at c place day))

  -- indices from left to right, in the order of the parameters that they choose among
  pub noted_index : Tables → Groups → Locals → Indices → ℕ → Point → (ℕ → Noted) → Noted
  noted_index c g ls no_index i p f = f i
  noted_index c g ls (index n size is) i p f = behind (noted c g ls n p) (λ x. with_member x (λ j. noted_index c g ls is (i * size + j) p f))

abbrev pub noted_or : Tables → Groups → Locals → Option Node → Point → Noted
noted_or c g ls None p = stuck
noted_or c g ls (Some e) p = noted c g ls e p

-- the first so many locals, each of which sees those before it
unfoldable pub noted_below : Tables → Groups → List Node → ℕ → Locals
noted_below c g ns zero i p = stuck
noted_below c g ns (suc n) i p = if i == n then noted_or c g (noted_below c g ns n) (slice_get ns n) p else noted_below c g ns n i p

-- a formula
abbrev pub noted_formula : Tables → Groups → Formula → Point → Noted
noted_formula c g f p = noted c g (noted_below c g f.values (length f.values)) f.result p
