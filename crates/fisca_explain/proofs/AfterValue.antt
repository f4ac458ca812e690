-- What holds of an evaluator that answered a column holds as before it did.
use Rattle.std.proofs.Common.{◌≡◌, ◌∙◌, [], ℕ, List, Option, Result, Ok, Err, ap, subst, sym}
use Rattle.fisca_evaluator.specs.Evaluators.{CanAnswer, IsMemoryOf}
use Rattle.fisca_key_semantics.specs.Answers.{most_keys}
use Rattle.fisca_memo_theory.specs.Entries.{Entries, Remembered}
use Rattle.fisca_memo_theory.specs.Memory.{IsTrueMemory}
use Rattle.fisca_memo_theory.specs.Work.{IsWork}
use Rattle.fisca_model.specs.Values.{Key}
use Rattle.fisca_model.specs.declared.eval_fault.EvalFault.{EvalFault}
use Rattle.fisca_model.specs.declared.key.Key.{Key as Held}
use Rattle.fisca_model.specs.declared.value.Value.{Value as Given}
use Rattle.fisca_rules.specs.Rules.{Rules}
use Rattle.fisca_simulation.specs.Simulations.{Simulation, normal_key, sources}
use Rattle.fisca_simulation.specs.Told.{IsReady, told_in}
use Rattle.fisca_explain.specs.Columns.{HasValue, column_told}
use Rattle.fisca_explain.specs.Ends.{IsOfLines}
use Rattle.fisca_explain.specs.Followed.{HasJust}
use Rattle.fisca_explain.specs.Walks.{CanWalk, IsColumnTold, explaining}
use Rattle.fisca_explain.specs.declared.explain.ExplainFault.{ExplainFault}
use Rattle.fisca_explain.specs.declared.explain.ExplainFault.TheVariants as end
use Rattle.fisca_explain.specs.declared.keys.Followed.{Followed}
use Rattle.fisca_explain.specs.declared.view.View.{View}

module _ (n m : Simulation) (same : n ≡ m) where
  pub can_after : (entries : Entries) → IsReady m → IsTrueMemory (sources m) entries → CanWalk entries n
  can_after entries ready truth = subst (λ x. CanWalk entries x) (sym same) (record { ready = ready; truth = truth })

  pub answers_after : (a b : Key → ℕ) (entries : Entries) (free : ℕ) → b ≡ a → IsReady m → IsMemoryOf a m entries free → CanAnswer b n entries free
  answers_after a b entries free marks ready memory = subst (λ x. CanAnswer b x entries free) (sym same) (record { ready = ready; memory = subst (λ w. IsMemoryOf w m entries free) (sym marks) memory })

  pub view_after : (r : Rules) → m ≡ record { rules = r; situation = m.situation; neutral = [] } → n ≡ record { rules = r; situation = n.situation; neutral = [] }
  view_after r is = subst (λ x. x ≡ record { rules = r; situation = x.situation; neutral = [] }) (sym same) is

  pub work_after : (entries : Entries) (key : Key) → ((k : Key) → IsWork (sources m) most_keys (normal_key m.rules key) k → Remembered entries k)
      → (k : Key) → IsWork (sources n) most_keys (normal_key n.rules key) k → Remembered entries k
  work_after entries key all k w = all k (subst (λ x. IsWork (sources x) most_keys (normal_key x.rules key) k) same w)

  -- what is told of a column, and what was followed
  abbrev pub IsOne : View → EvalFault → List Key → Key → Option (List ℕ) → Option (List ℕ) → Followed → Simulation → Type 0
  IsOne v fault before key old new f x = IsColumnTold (explaining v x) fault before key old new × HasJust (column_told (explaining v x) before key).followed f

  pub told_after : (v : View) (fault : EvalFault) (before : List Key) (key : Key) (old new : Option (List ℕ)) (f : Followed) → IsOne v fault before key old new f n → IsOne v fault before key old new f m
  told_after v fault before key old new f one = subst (IsOne v fault before key old new f) same one

  pub value_after : (v : View) (key : Key) → HasValue (explaining v n) key → HasValue (explaining v m) key
  value_after v key has = subst (λ x. HasValue (explaining v x) key) same has

-- lines that end say nothing of a value
pub never_of_lines : (r : Result Unit ExplainFault) (e : ExplainFault) → r ≡ Err e → IsOfLines e → (fault : EvalFault) → r ≡ Err (end.Eval fault) → ⊥
never_of_lines r e is lines fault eval = let same : e ≡ end.Eval fault = cc in subst IsOfLines same lines

-- a fault that is told
abbrev pub IsFault : View → Simulation → Held → Key → Option (List ℕ) → Option (List ℕ) → Followed → EvalFault → Type 0
IsFault v x held key old new f fault = (told_in x held ≡ Err fault) × ((before : List Key) → HasJust before f → IsColumnTold (explaining v x) fault before key old new)

pub fault_told : (v : View) (x : Simulation) (held : Held) (key : Key) (old new : Option (List ℕ)) (f : Followed) (told fault : EvalFault) → end.Eval told ≡ end.Eval fault → IsFault v x held key old new f told → IsFault v x held key old new f fault
fault_told v x held key old new f told fault is h = let same : told ≡ fault = cc in subst (IsFault v x held key old new f) same h

pub fault_same : (a b : EvalFault) → ◌≡◌ {A = Result Given EvalFault} (Err a) (Err b) → a ≡ b
fault_same a b is = cc
