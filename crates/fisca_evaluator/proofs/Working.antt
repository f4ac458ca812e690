-- The formula of the last of the keys, question by question.
use Rattle.std.proofs.Common.{◌≡◌, ◌⊎◌, ℕ, suc, ◌+◌, max, List, [], ◌∷◌, ◌++◌, map, Option, Some, None, Result, Err, sym, ap, subst}
use Rattle.std.specs.Int.Bits.{bit_or}
use Rattle.fisca_key_semantics.specs.Answers.{Sources}
use Rattle.fisca_key_semantics.specs.Chains.{AsksFor}
use Rattle.fisca_model.specs.Causes.{Fault}
use Rattle.fisca_key_semantics.specs.Inquiry.{Inquiry, asks, named, of_key}
use Rattle.fisca_key_semantics.specs.Stacks.{left_below}
use Rattle.fisca_check.specs.Formulas.{formula_view}
use Rattle.fisca_check.specs.declared.formula.TypedFormula.{TypedFormula}
use Rattle.fisca_memo_theory.specs.Gathered.{IsGathered}
use Rattle.fisca_memo_theory.specs.Memory.{IsKnown}
use Rattle.fisca_memo_theory.specs.Reads.{IsReads}
use Rattle.fisca_memo_theory.specs.Work.{IsWork, Covered, PassedPath}
use Rattle.fisca_memo_theory.proofs.Gathering.{gathered_none, gathered_asks}
use Rattle.fisca_memo_theory.proofs.Reading.{AreRead, ReadsWithin, read_more, reading_done, reading_more}
use Rattle.fisca_memo_theory.proofs.Steps.{worked_value, worked_all, worked_fault, fault_stopped, needed_stack, needed_fault, needed_more, needs_work, needs_stopped, needs_passed}
use Rattle.fisca_model.specs.Seen.{key_seen, value_seen}
use Rattle.fisca_inputs.specs.Typed.{IsValueOf}
use Rattle.fisca_model.specs.declared.value.Value.{Value as Given}
use Rattle.fisca_model.specs.declared.key.Key.{Key}
use Rattle.fisca_machine.specs.Running.{before}
use Rattle.fisca_machine.specs.Context.{tables, groups}
use Rattle.fisca_key_semantics.specs.Dialogues as meaning
use Rattle.fisca_model.specs.Values as model
use Rattle.fisca_model.specs.Values.{Value}
use Rattle.fisca_key_semantics.specs.Dialogues.{Dialogue}
use Rattle.fisca_typing.specs.Meaning.{formula_means}
use Rattle.fisca_model.specs.Tables.{variable_type}
use Rattle.fisca_evaluator.specs.declared.known.Known.{Known}
use Rattle.fisca_simulation.specs.Simulations.{start_point}
use Rattle.fisca_simulation.specs.Sound.{GivesOnly, AreSound}
use Rattle.fisca_simulation.proofs.Casts.{typed_is_of}
use Rattle.fisca_simulation.proofs.SourceLookups.{sources_sound}
use Rattle.fisca_simulation.proofs.ValueTypes.{values_fit}
use Rattle.fisca_symbols.specs.declared.variable.Variable.{Variable}
use Rattle.fisca_ops.specs.Casts.{cast}
use Rattle.fisca_model.specs.EvalFaults.{IsTold}
use Rattle.fisca_simulation.proofs.Steps.{is_told}
use Rattle.fisca_evaluator.proofs.Apart.{apart}
use Rattle.fisca_evaluator.specs.Recalled.{IfTold, IsKnownBelow, IsStack, IsWorking, work_at, work_below}
use Rattle.fisca_evaluator.specs.Evaluations.{HasRead, IsEvaluation, known_in, marks_in, seen, sources_in, wanted, wanted_of_work, work}
use Rattle.fisca_evaluator.specs.Evaluations as evaluations
use Rattle.fisca_evaluator.specs.declared.evaluation.Evaluation.{Evaluation}

-- what is told of one answer is told of another that has the same fault
told_on : (o : Option Fault) (one other : Result Value Fault) → ((f : Fault) → one ≡ Err f → other ≡ Err f) → IsTold o one → IsTold o other
told_on None one other h t = tt
told_on (Some f) one other h t = h f t

-- a formula, where it begins
module _ (s : Evaluation) (v : Variable) (f : TypedFormula) (key : Key) where
  pub begins : IsEvaluation s → before (formula_means (tables s.context) (groups s.context) (formula_view f) (start_point v (key_seen key))) (cast v.value_type) ≡ work s v f key
  begins is = λ i. before (formula_means (is.tables i) (is.groups i) (formula_view f) (start_point v (key_seen key))) (cast v.value_type)

-- nothing of it was asked so far
pub nothing_asked : (s : Evaluation) (d : Dialogue) (key : Key) (n : ℕ) (r : Dialogue) (P : model.Key → Type 0) → r ≡ d → IsGathered (sources_in s) n (of_key (key_seen key) d) (of_key (key_seen key) r) 0 P
nothing_asked s d key n r P e = gathered_none (sources_in s) n (of_key (key_seen key) d) (of_key (key_seen key) r) P (ap (of_key (key_seen key)) (sym e))

-- of the formula's dialogue r is left
module _ (s : Evaluation) (d : Dialogue) (key : Key) (keys : List Key) (r : Dialogue) (tallest : ℕ) (M : model.Key → Type 0) (is : evaluations.IsWork s d key)
    (g : IsGathered (sources_in s) (left_below (map key_seen keys)) (of_key (key_seen key) d) (of_key (key_seen key) r) tallest (Covered (sources_in s) M)) where
  abbrev src : Sources
  src = sources_in s

  abbrev stack : List model.Key
  stack = map key_seen keys

  abbrev k : model.Key
  k = key_seen key

  abbrev q : Inquiry
  q = of_key k d

  abbrev now : Inquiry
  now = of_key k r

  -- it gives a value
  module _ (x : Given) (e : r ≡ meaning.gives (value_seen x)) where
    pub done_known : IsKnown (sources_in s) (suc (left_below (map key_seen keys))) (key_seen key) (value_seen x) (tallest + 1)
    done_known = worked_value src stack k q now tallest M is.source g (value_seen x) (ap (of_key k) e)

    pub done_all : (n : ℕ) (i : model.Key) → IsWork (sources_in s) n (key_seen key) i → (i ≡ key_seen key) ⊎ M i
    done_all = worked_all src stack k q now tallest M is.source g (value_seen x) (ap (of_key k) e)

  -- it fails
  module _ (x : meaning.OperationFault) (e : r ≡ meaning.fails x) where
    pub failed_fault : (o : Option Fault) → o ≡ Some (named (key_seen key) x) → IsTold o (wanted_of_work s keys d key)
    failed_fault o t = is_told o (named k x) _ t (worked_fault src stack k q now tallest M is.source g (named k x) (ap (of_key k) e))

    pub failed_done : (o : Option Fault) → IfTold o ((i : model.Key) → work_at (sources_in s) keys key i → M i)
    failed_done None = tt
    failed_done (Some y) = fault_stopped src stack k q now tallest M is.source g (named k x) (ap (of_key k) e)

  -- it asks for j
  module _ (j : Key) (go : Value → Dialogue) (e : r ≡ meaning.asks (key_seen j) go) where
    abbrev then_left : Value → Inquiry
    then_left = λ x. of_key k (go x)

    asks_so : now ≡ asks (key_seen j) then_left
    asks_so = ap (of_key k) e

    asks_for : AsksFor src k (key_seen j)
    asks_for = record { fuel = left_below stack; inquiry = q; is_formula = is.source; asks = gathered_asks src (left_below stack) q now tallest (Covered src M) g (key_seen j) then_left asks_so }

    pub next_stack : IsWorking (sources_in s) keys key → IsStack (sources_in s) keys j
    next_stack w = needed_stack src stack k q now tallest M is.source g (key_seen j) then_left asks_so w

    pub next_passed : IsWorking (sources_in s) keys key → PassedPath (sources_in s) M (map key_seen keys) → PassedPath (sources_in s) M (map key_seen keys ++ key_seen j ∷ [])
    next_passed w p = needs_passed src stack k q now tallest M is.source g (key_seen j) then_left asks_so w p

    pub next_fault : IsWorking (sources_in s) keys key → (o : Option Fault) → IsTold o (wanted s keys j) → IsTold o (wanted_of_work s keys d key)
    next_fault w o t = told_on o (wanted s keys j) (wanted_of_work s keys d key) (needed_fault src stack k q now tallest M is.source g (key_seen j) then_left asks_so w) t

    pub next_work : (i : model.Key) → work_below (sources_in s) keys j i → work_at (sources_in s) keys key i
    next_work i w = needs_work src stack k q now tallest M is.source g (key_seen j) then_left asks_so i w

    pub next_apart : work_below (sources_in s) keys j (key_seen key) → ⊥
    next_apart w = apart src (left_below stack) k (key_seen j) asks_for w

    pub next_done : (o : Option Fault) → IsTold o (wanted s keys j) → IfTold o ((i : model.Key) → work_below (sources_in s) keys j i → M i) → IfTold o ((i : model.Key) → work_at (sources_in s) keys key i → M i)
    next_done None t d = tt
    next_done (Some x) t d = needs_stopped src stack k q now tallest M is.source g (key_seen j) then_left asks_so x t d

    -- one more answer
    module _ (x : Known) (known : IsKnownBelow (sources_in s) keys j x) where
      pub next_more : (M' : model.Key → Type 0) → ((i : model.Key) → M i → M' i) → Covered (sources_in s) M' (key_seen j)
          → IsGathered (sources_in s) (left_below (map key_seen keys)) (of_key (key_seen key) d) (of_key (key_seen key) (go (value_seen x.value))) (max tallest x.height) (Covered (sources_in s) M')
      next_more M' up c = needed_more src stack k q now tallest M is.source g (key_seen j) then_left asks_so M' up (value_seen x.value) x.height known c

      pub next_sound : IsEvaluation s → GivesOnly (known_in s) (IsValueOf (known_in s) key.variable) r → GivesOnly (known_in s) (IsValueOf (known_in s) key.variable) (go (value_seen x.value))
      next_sound evaluation h =
          let c = known_in s in
          let asked_so : GivesOnly c (IsValueOf c key.variable) (meaning.asks (key_seen j) go) = subst (GivesOnly c (IsValueOf c key.variable)) e h in
          let sound : AreSound c (sources_in s) = sources_sound (seen s) evaluation.safe evaluation.fit in
          asked_so.2 (value_seen x.value) (typed_is_of c (variable_type c j.variable) asked_so.0 (value_seen x.value) asked_so.1 (values_fit c (sources_in s) sound (left_below stack) (key_seen j) (value_seen x.value) known.answers))

-- of the formula's dialogue r is left, and all that was asked for so far reads just these wheels
module _ (s : Evaluation) (d : Dialogue) (key : Key) (keys : List Key) (r : Dialogue) (tallest reads : ℕ) (is : evaluations.IsWork s d key)
    (g : IsGathered (sources_in s) (left_below (map key_seen keys)) (of_key (key_seen key) d) (of_key (key_seen key) r) tallest
    (ReadsWithin (marks_in s) (sources_in s) (left_below (map key_seen keys)) reads))
    (read : AreRead (marks_in s) (sources_in s) (left_below (map key_seen keys)) (of_key (key_seen key) d) reads) where
  abbrev fuel : ℕ
  fuel = left_below (map key_seen keys)

  abbrev own : model.Key
  own = key_seen key

  abbrev whole : Inquiry
  whole = of_key (key_seen key) d

  -- it gives a value
  pub done_read : (x : Given) → r ≡ meaning.gives (value_seen x) → IsReads (marks_in s) (sources_in s) (key_seen key) (bit_or reads (marks_in s (key_seen key)))
  done_read x e = reading_done (marks_in s) (sources_in s) fuel whole (of_key own r) tallest reads g own (value_seen x) is.source (ap (of_key own) e) read

  -- it asks for j, and there is one more answer
  module _ (j : Key) (go : Value → Dialogue) (e : r ≡ meaning.asks (key_seen j) go) (x : Known) (known : IsKnownBelow (sources_in s) keys j x) (more : HasRead s j x) where
    abbrev then_left_of : Value → Inquiry
    then_left_of = λ y. of_key own (go y)

    pub next_reading : IsGathered (sources_in s) (left_below (map key_seen keys)) (of_key (key_seen key) d) (of_key (key_seen key) (go (value_seen x.value))) (max tallest x.height)
        (ReadsWithin (marks_in s) (sources_in s) (left_below (map key_seen keys)) (bit_or reads x.reads))
    next_reading = reading_more (marks_in s) (sources_in s) fuel whole (of_key own r) tallest reads g (key_seen j) then_left_of (ap (of_key own) e) (value_seen x.value) x.height x.reads known.answers known.height_is more

    pub next_read : AreRead (marks_in s) (sources_in s) (left_below (map key_seen keys)) (of_key (key_seen key) d) (bit_or reads x.reads)
    next_read = read_more (marks_in s) (sources_in s) fuel whole (of_key own r) tallest reads g (key_seen j) then_left_of (ap (of_key own) e) (value_seen x.value) x.height x.reads known.answers known.height_is more read
