-- Formulas that are followed over what memory answers are never stuck.
use Rattle.std.proofs.Common.{◌≡◌, ℕ, zero, suc, nat_lt, Bool, true, false, List, Option, Some, None, if◌then◌else◌, refl, subst, map}
use Rattle.fisca_typing.specs.Meaning.{formula_means}
use Rattle.fisca_groups.specs.Grouped.{grouped}
use Rattle.fisca_inputs.specs.Typed.{IsValueOf}
use Rattle.fisca_ir.specs.Views.{node}
use Rattle.fisca_ir.specs.declared.node.Node.{Node as Held}
use Rattle.fisca_key_semantics.specs.Answers.{Source, Sources, refused, known, formula}
use Rattle.fisca_memo_theory.specs.Entries.{Entries, Entry}
use Rattle.fisca_memo_theory.specs.Memory.{IsKnown, IsTrueEntry, IsTrueMemory}
use Rattle.fisca_model.specs.Tables.{Tables, variable_type}
use Rattle.fisca_model.specs.Values.{Key, Value}
use Rattle.fisca_ops.specs.Casts.{cast}
use Rattle.fisca_rules.specs.Rules.{known_by}
use Rattle.fisca_simulation.proofs.Casts.{typed_is_of}
use Rattle.fisca_simulation.proofs.ValueTypes.{values_fit}
use Rattle.fisca_simulation.specs.Simulations.{Simulation, start_point, worked_out}
use Rattle.fisca_simulation.specs.Sound.{AreSound, GivesOnly, IsSound}
use Rattle.fisca_symbols.specs.declared.variable.Variable.{Variable}
use Rattle.fisca_simulation.proofs.Erased.{behind_same, erased_unread, formula_same}
use Rattle.fisca_simulation.specs.NotedFormulas.{noted_formula}
use Rattle.fisca_simulation.specs.Noted.{Noted, asks, erased, fails, gives, reads, stuck, unread}
use Rattle.fisca_simulation.specs.Played.{IsSomewhere, Moves, on_answer, played}
use Rattle.fisca_explain.specs.Below.{answer_by, answers_by, if_left, if_low}
use Rattle.fisca_explain.specs.Needs.{noted_work}

-- what memory answers is of the variable's type
module _ (c : Tables) (src : Sources) (sound : AreSound c src) (entries : Entries) (truth : IsTrueMemory src entries) (left : ℕ) (k : Key) (v : Value) where
  by_height : (e : Entry) → IsKnown src e.height k e.value e.height → (b : Bool) → (if b then None else Some e.value) ≡ Some v → IsValueOf c k.variable v
  by_height e is true h = cc
  by_height e is false h = let same : e.value ≡ v = cc in subst (IsValueOf c k.variable) same (values_fit c src sound e.height k e.value is.answers)

  by_entry : (o : Option Entry) → IsTrueEntry src k o → if_low left o ≡ Some v → IsValueOf c k.variable v
  by_entry None is h = cc
  by_entry (Some e) is h = by_height e is (nat_lt left e.height) h

  by_left : (n : ℕ) (w : Value) → IsValueOf c k.variable w → if_left n (Some w) ≡ Some v → IsValueOf c k.variable v
  by_left zero w is h = cc
  by_left (suc n) w is h = let same : w ≡ v = cc in subst (IsValueOf c k.variable) same is

  by_source : (s : Source) → IsSound c k s → answer_by left (entries k) s ≡ Some v → IsValueOf c k.variable v
  by_source refused is h = cc
  by_source (known w) is h = by_left left w is h
  by_source (formula d) is h = by_entry (entries k) (truth.each k) h

  pub answers_typed : answers_by src entries left k ≡ Some v → IsValueOf c k.variable v
  answers_typed h = by_source (src k) (sound k) h

-- a dialogue that is answered by such values moves
module _ (c : Tables) (P : Value → Type 0) (W : Key → Option Value) (typed : (k : Key) (v : Value) → W k ≡ Some v → IsValueOf c k.variable v) where
  pub never_stuck : (d : Noted) → GivesOnly c P (erased d) → Moves W d
  never_stuck (gives v) s = tt
  never_stuck (fails e) s = tt
  never_stuck stuck s = s
  never_stuck (asks k go) s = by (λ v h. never_stuck (go v) (s.2 v (typed_is_of c (variable_type c k.variable) s.0 v s.1 (typed k v h)))) (W k) refl
    where
      by : ((v : Value) → W k ≡ Some v → Moves W (go v)) → (o : Option Value) → W k ≡ o → IsSomewhere (on_answer o (λ v. played W (go v))).end
      by more None h = tt
      by more (Some v) h = more v h
  never_stuck (reads r d) s = never_stuck d s

-- the work of a key is what its formula gives, noted
pub work_same : (m : Simulation) (v : Variable) (k : Key) (ns : List Held) (e : Held)
    → erased (noted_work m v k (record { values = map node ns; result = node e })) ≡ worked_out m.rules (grouped m.situation.members) v k (record { values = map node ns; result = node e })
work_same m v k ns e =
    behind_same (noted_formula (known_by m.rules) (grouped m.situation.members) (record { values = map node ns; result = node e }) (start_point v k))
    (formula_means (known_by m.rules) (grouped m.situation.members) (record { values = map node ns; result = node e }) (start_point v k))
    (λ x. unread (cast v.value_type x)) (cast v.value_type) (formula_same (known_by m.rules) (grouped m.situation.members) ns e (start_point v k)) (λ x. erased_unread (cast v.value_type x))
