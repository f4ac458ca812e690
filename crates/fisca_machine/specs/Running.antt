-- What a machine has still to do, told with what comes after it.
use Rattle.std.specs.Prelude.{◌≡◌, ℕ, zero, suc, ◌+◌, ◌*◌, ◌==◌, if◌then◌else◌, List, [], ◌∷◌, drop, slice_get, length, Option, Some, None}
use Rattle.fisca_model.specs.Seen.{key_seen, value_seen}
use Rattle.fisca_typing.specs.Answers.{arithmetic_of, logic_of, comparison_of, same_of, unary_of}
use Rattle.fisca_model.specs.Values.{Value, number, bool, member}
use Rattle.fisca_key_semantics.specs.Dialogues.{Dialogue, gives, fails, stuck, asks, ◌>>=◌, with_number, with_member, computed, no_member}
use Rattle.fisca_typing.specs.Meaning.{at_person, at_place, chosen, parameter_value, scale_value}
use Rattle.fisca_model.specs.Groups.{Groups, Point, has, persons_at}
use Rattle.fisca_typing.specs.Questions.{at_period, at_start, part_of, counted, ask_all, ask_known, person_of, persons_in}
use Rattle.fisca_ir.specs.Views.{node, node_step, index_step, pair_step, parameter_step, scale_step, totalled_step, Indexed, Paired, Parametric, Scaled, Summed}
use Rattle.fisca_ir.specs.declared.node.Node.{Node as Held}
use Rattle.fisca_ir.specs.declared.node.Parameter.{Parameter, fold-Parameter}
use Rattle.fisca_num.specs.Number.{Number}
use Rattle.fisca_num.specs.Operations.{sum_of}
use Rattle.fisca_params.specs.Lookup.{value_in, sum_in}
use Rattle.fisca_params.specs.Tree.{content_at}
use Rattle.fisca_time.specs.Instant.{CivilDate}
use Rattle.fisca_time.specs.Period.{Span, subs}
use Rattle.fisca_typing.specs.Nodes as node
use Rattle.fisca_typing.specs.Nodes.{Node, Indices, no_index, index}
use Rattle.fisca_model.specs.Tables.{Tables}
use Rattle.fisca_typing.specs.declared.operations.Total.{Total}
use Rattle.fisca_ops.specs.Casts.{cast}
use Rattle.fisca_ops.specs.Ended.{fault_seen}
use Rattle.fisca_ops.specs.Parts.{shared}
use Rattle.fisca_ops.specs.Persons.{persons_from}
use Rattle.fisca_ops.specs.Totals.{step_of}
use Rattle.fisca_ops.specs.Steps.Totals.{beginning}
use Rattle.fisca_machine.specs.Context.{tables, groups}
use Rattle.fisca_machine.specs.declared.pending.At.{At}
use Rattle.fisca_machine.specs.declared.pending.Frame.{Frame}
use Rattle.fisca_machine.specs.declared.pending.Kept.{Kept}
use Rattle.fisca_machine.specs.declared.pending.Kept.TheVariants as kept
use Rattle.fisca_machine.specs.declared.pending.Pending.{Pending}
use Rattle.fisca_machine.specs.declared.pending.Pending.TheVariants as then
use Rattle.fisca_machine.specs.declared.machine.Control.{Control}
use Rattle.fisca_machine.specs.declared.machine.Control.TheVariants.{Eval, Give}
use Rattle.fisca_machine.specs.declared.machine.Step.{Step}
use Rattle.fisca_machine.specs.declared.machine.Step.TheVariants as step
use Rattle.fisca_machine.specs.declared.machine.Machine.{Machine}
use Rattle.fisca_machine.specs.declared.context.Context.{Context}
use Rattle.fisca_machine.specs.Steps.Running.{applied}

-- what comes after a value
abbrev pub After : Type 0
After = Value → Dialogue

-- what a local says, by how many with a value come before it
abbrev pub Locals : Type 0
Locals = ℕ → Point → After → Dialogue

abbrev pub before : Dialogue → After → Dialogue
before d k = d >>= k

-- Totals

-- each person in turn
abbrev pub turn_then : (Value → Value → Dialogue) → (ℕ → After → Dialogue) → List ℕ → Value → After → Dialogue
turn_then step each [] sum k = k sum
turn_then step each (m ∷ ms) sum k = each m (λ x. step sum x >>= λ s. turn_then step each ms s k)

-- the first person's value is a number, with which the others' are compared
abbrev pub first_by : (Value → Value → Dialogue) → (ℕ → After → Dialogue) → List ℕ → After → After
first_by step each ms k = λ x. with_number x (λ n. turn_then step each ms (number n) k)

abbrev pub first_then : (Value → Value → Dialogue) → (ℕ → After → Dialogue) → List ℕ → After → Dialogue
first_then step each [] k = fails no_member
first_then step each (m ∷ ms) k = each m (first_by step each ms k)

abbrev pub begun_then : Option Value → (Value → Value → Dialogue) → (ℕ → After → Dialogue) → List ℕ → After → Dialogue
begun_then None step each ms k = first_then step each ms k
begun_then (Some v) step each ms k = turn_then step each ms v k

abbrev pub total_then : Total → (ℕ → After → Dialogue) → List ℕ → After → Dialogue
total_then o each ms k = begun_then (beginning o) (step_of o) each ms k

-- Nodes

abbrev pub chosen_parameter : Tables → List ℕ → CivilDate → ℕ → Dialogue
chosen_parameter c places day i = at_place (slice_get places i) (λ place. parameter_value (value_in (content_at c.nodes place) day))

abbrev pub scale_by : Tables → ℕ → CivilDate → Value → Dialogue
scale_by c place day x = with_number x (λ n. scale_value (sum_in (content_at c.nodes place) day n))

-- `mean`, told with what comes after it
abbrev mutual
  pub says : Tables → Groups → Locals → Node → Point → After → Dialogue
  says c g ls (node.literal n) p k = k (number n)
  says c g ls (node.truth b) p k = k (bool b)
  says c g ls (node.member e i) p k = k (member i)
  says c g ls (node.local i) p k = ls i p k
  says c g ls (node.date_part d ms) p k = at_start ms p.period (λ day. counted (part_of d day)) >>= k
  says c g ls (node.ask v w how ms) p k = at_period ms p.period (λ q. ask_known g p w how v q (slice_get c.variables v)) >>= k
  says c g ls (node.has_role e r) p k = k (bool (has r (g.role_of e (person_of p))))
  says c g ls (node.count e r) p k = counted (length (persons_in g p e r)) >>= k
  says c g ls (node.total o r a) p k = total_then o (λ m. says c g ls a (at_person p m)) (persons_at g p r) k
  says c g ls (node.unary o a) p k = says c g ls a p (λ x. unary_of o x >>= k)
  says c g ls (node.arithmetic o a b) p k = says c g ls a p (λ x. says c g ls b p (λ y. arithmetic_of o x y >>= k))
  says c g ls (node.logic o a b) p k = says c g ls a p (λ x. says c g ls b p (λ y. logic_of o x y >>= k))
  says c g ls (node.comparison o a b) p k = says c g ls a p (λ x. says c g ls b p (λ y. comparison_of o x y >>= k))
  says c g ls (node.same a b) p k = says c g ls a p (λ x. says c g ls b p (λ y. same_of x y >>= k))
  says c g ls (node.choose q a b) p k = says c g ls q p (λ x. chosen x (says c g ls a p k) (says c g ls b p k))
  says c g ls (node.parameter is places ms) p k = at_start ms p.period (λ day. chooses c g ls is 0 p (λ i. chosen_parameter c places day i >>= k))
  says c g ls (node.scale_sum place ms a) p k = at_start ms p.period (λ day. says c g ls a p (λ x. scale_by c place day x >>= k))

  -- indices from left to right, in the order of the parameters that they choose among
  pub chooses : Tables → Groups → Locals → Indices → ℕ → Point → (ℕ → Dialogue) → Dialogue
  chooses c g ls no_index i p f = f i
  chooses c g ls (index n size is) i p f = says c g ls n p (λ x. with_member x (λ j. chooses c g ls is (i * size + j) p f))

abbrev pub says_or : Tables → Groups → Locals → Option Held → Point → After → Dialogue
says_or c g ls None p k = stuck
says_or c g ls (Some e) p k = says c g ls (node e) p k

-- the first so many locals, each of which sees those before it
unfoldable pub says_below : Tables → Groups → List Held → ℕ → Locals
says_below c g ns zero i p k = stuck
says_below c g ns (suc n) i p k = if i == n then says_or c g (says_below c g ns n) (slice_get ns n) p k else says_below c g ns n i p k

abbrev pub point : Frame → At → Point
point f at = record { entity = f.entity; member = f.member; person = at.person; period = f.period }

-- a node of a formula with these locals, so many of which are seen
abbrev pub saying : Context → List Held → Frame → Held → At → After → Dialogue
saying w ns f e at k = says (tables w) (groups w) (says_below (tables w) (groups w) ns at.visible) (node e) (point f at) k

-- the same for a person
abbrev pub saying_for : Context → List Held → Frame → Held → At → ℕ → After → Dialogue
saying_for w ns f e at m = says (tables w) (groups w) (says_below (tables w) (groups w) ns at.visible) (node e) (at_person (point f at) m)

-- a parameter's indices, places and moves
abbrev pub parametric : Parameter → Parametric
parametric = fold-Parameter Node Indexed Paired Parametric Scaled Summed node_step index_step pair_step parameter_step scale_step totalled_step

-- the indices from a place on
abbrev pub from : ℕ → Indices → Indices
from zero is = is
from (suc n) no_index = no_index
from (suc n) (index m size is) = from n is

abbrev pub choosing : Context → List Held → Frame → Indices → ℕ → At → (ℕ → Dialogue) → Dialogue
choosing w ns f is i at h = chooses (tables w) (groups w) (says_below (tables w) (groups w) ns at.visible) is i (point f at) h

-- the first one is there now
abbrev pub choosing_behind : Context → List Held → Frame → Indices → ℕ → At → (ℕ → Dialogue) → After
choosing_behind w ns f no_index i at h = λ x. stuck
choosing_behind w ns f (index n size is) i at h = λ x. with_member x (λ j. choosing w ns f is (i * size + j) at h)

-- What is pending

-- what is kept on top
abbrev pub on_value : List Kept → (Value → After) → After
on_value (kept.Value v ∷ vs) h = h (value_seen v)
on_value _ _ = λ y. stuck

abbrev pub on_day : List Kept → (CivilDate → After) → After
on_day (kept.Day d ∷ vs) h = h d.date
on_day _ _ = λ y. stuck

abbrev pub on_sum : List Kept → (Span → Number → After) → After
on_sum (kept.Sum s ∷ vs) h = h s.period s.sum
on_sum _ _ = λ y. stuck

abbrev pub on_frame : List Kept → After → After
on_frame (kept.Frame f ∷ vs) h = h
on_frame _ _ = λ y. stuck

abbrev pub below_frame : {X : Type 0} → X → List Kept → (Frame → List Kept → X) → X
below_frame none (kept.Frame f ∷ vs) h = h f vs
below_frame none _ _ = none

abbrev pub behind : {X : Type 0} → List X → List X
behind [] = []
behind (x ∷ xs) = xs

-- what the formula on top does with a value
abbrev pub top : Context → List Held → Frame → List Pending → List Kept → After
top w ns f [] vs = λ x. stuck
top w ns f (then.Right o b at ∷ ks) vs = λ x. saying w ns f b.now at (λ y. applied o x y >>= top w ns f ks vs)
top w ns f (then.Apply o ∷ ks) vs = on_value vs (λ x y. applied o x y >>= top w ns f ks (behind vs))
top w ns f (then.Unary o ∷ ks) vs = λ x. unary_of o x >>= top w ns f ks vs
top w ns f (then.Choose a b at ∷ ks) vs = λ x. chosen x (saying w ns f a.now at (top w ns f ks vs)) (saying w ns f b.now at (top w ns f ks vs))
top w ns f (then.Turn o t i at ∷ ks) vs =
    on_value vs (λ sum x. step_of o sum x >>= λ s. turn_then (step_of o) (saying_for w ns f t.now.values at) (persons_from (groups w) f.entity f.member t.now.role i) s (top w ns f ks (behind vs)))
top w ns f (then.First o t i at ∷ ks) vs =
    first_by (step_of o) (saying_for w ns f t.now.values at) (persons_from (groups w) f.entity f.member t.now.role i) (top w ns f ks vs)
top w ns f (then.Part v m u i ∷ ks) vs =
    on_sum vs (λ q sum x. with_number x (λ n. computed (sum_of sum n) >>= λ y. with_number y (λ s. ask_all v m (drop i (subs q u)) s)) >>= top w ns f ks (behind vs))
top w ns f (then.Share s ∷ ks) vs = λ x. shared s x >>= top w ns f ks vs
top w ns f (then.Index a next i at ∷ ks) vs =
    on_day vs (λ day. choosing_behind w ns f (from next (parametric a.now).indices) i at (λ j. chosen_parameter (tables w) (parametric a.now).places day j >>= top w ns f ks (behind vs)))
top w ns f (then.Scale a ∷ ks) vs = on_day vs (λ day x. scale_by (tables w) a.now.place day x >>= top w ns f ks (behind vs))
top w ns f (then.Return ms t ∷ ks) vs = on_frame vs (cast t)

-- what the formulas below do with a value
abbrev pub waits : Context → List Held → Frame → List Pending → List Kept → List After
waits w ns f [] vs = []
waits w ns f (then.Right o b at ∷ ks) vs = waits w ns f ks vs
waits w ns f (then.Apply o ∷ ks) vs = waits w ns f ks (behind vs)
waits w ns f (then.Unary o ∷ ks) vs = waits w ns f ks vs
waits w ns f (then.Choose a b at ∷ ks) vs = waits w ns f ks vs
waits w ns f (then.Turn o t i at ∷ ks) vs = waits w ns f ks (behind vs)
waits w ns f (then.First o t i at ∷ ks) vs = waits w ns f ks vs
waits w ns f (then.Part v m u i ∷ ks) vs = waits w ns f ks (behind vs)
waits w ns f (then.Share s ∷ ks) vs = waits w ns f ks vs
waits w ns f (then.Index a next i at ∷ ks) vs = waits w ns f ks (behind vs)
waits w ns f (then.Scale a ∷ ks) vs = waits w ns f ks (behind vs)
waits w ns f (then.Return ms t ∷ ks) vs = below_frame [] vs (λ h ys. top w ms.now h ks ys ∷ waits w ms.now h ks ys)

abbrev pub rest : Context → Machine → After
rest w m = top w m.locals.now m.frame m.stack m.kept

abbrev pub waiting : Context → Machine → List After
waiting w m = waits w m.locals.now m.frame m.stack m.kept

-- what a machine does from here on
abbrev pub resume : Context → Machine → Control → Dialogue
resume w m (Eval e at) = saying w m.locals.now m.frame e.now at (rest w m)
resume w m Give = rest w m (value_seen m.value)

-- a step says how the dialogue goes on; g and new are what the machine is left with
abbrev pub Told : Step → Dialogue → After → List After → List After → Type 0
Told (step.Done v) d g old new = (d ≡ gives (value_seen v)) × (old ≡ g ∷ new)
Told (step.Failed e) d g old new = d ≡ fails (fault_seen e)
Told (step.Needs key) d g old new = (d ≡ asks (key_seen key) g) × (old ≡ new)
Told step.Memory d g old new = Unit {0}
