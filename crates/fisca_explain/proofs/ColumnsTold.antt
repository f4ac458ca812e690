-- What a walk over memory tells of a column is what the rules define.
use Rattle.std.proofs.Common.{◌≡◌, ◌∙◌, ◌+◌, ◌-◌, ◌≤◌, [], ℕ, List, Option, Some, None, ap, sym, subst, arith}
use Rattle.std.proofs.Math.Nat.{sub-zero}
use Rattle.fisca_forms.specs.LineForms.{Form}
use Rattle.fisca_key_semantics.specs.Answers.{most_keys}
use Rattle.fisca_memo_theory.specs.Entries.{Entries, Remembered}
use Rattle.fisca_memo_theory.specs.Memory.{IsTrueMemory}
use Rattle.fisca_memo_theory.specs.Work.{IsWork}
use Rattle.fisca_model.specs.Values.{Key, Value}
use Rattle.fisca_rules.specs.declared.rule_set.RuleSet.{RuleSet}
use Rattle.fisca_simulation.specs.Simulations.{Simulation, normal_key, sources}
use Rattle.fisca_situations.specs.Situations.{Situation}
use Rattle.fisca_explain.specs.Below.{answers_by}
use Rattle.fisca_explain.specs.Columns.{levels_of, value_below}
use Rattle.fisca_explain.specs.Explained.{Told, explained}
use Rattle.fisca_explain.specs.Needs.{needs}
use Rattle.fisca_explain.specs.Says.{Names}
use Rattle.fisca_explain.specs.declared.keys.Followed.{Followed}
use Rattle.fisca_explain.proofs.Defined.{simulation, told_defined}
use Rattle.fisca_explain.proofs.Explaining.{IsDone}

pub levels_low : (o : Option ℕ) → levels_of o ≤ most_keys
levels_low None = omega arith
levels_low (Some most) = omega arith

module _ (r : RuleSet) (s : Situation) (m : Simulation) (same : simulation r s [] ≡ m) (entries : Entries) where
  abbrev W : ℕ → Key → Option Value
  W depth = answers_by (sources (simulation r s [])) entries (most_keys - depth)

  pub column_same : IsTrueMemory (sources m) entries → (levels : ℕ) → levels ≤ most_keys → (own k : Key) → own ≡ normal_key m.rules k
      → ((j : Key) → IsWork (sources m) most_keys (normal_key m.rules k) j → Remembered entries j) → (before : List Key)
      → explained (sources (simulation r s [])) W (needs (simulation r s []) W) (levels - 0) 0 before own ≡ explained (sources m) (value_below m) (needs m (value_below m)) levels 0 before (normal_key m.rules k)
  column_same truth levels low own k owned all before =
      ap (λ l. explained (sources (simulation r s [])) W (needs (simulation r s []) W) l 0 before own) (sub-zero levels)
      ∙ told_defined r s [] entries (subst (λ x. IsTrueMemory (sources x) entries) (sym same) truth) levels 0 before own room
      (λ j w. all j (subst (λ x. IsWork (sources x) most_keys (normal_key m.rules k) j) same (subst (λ y. IsWork (sources (simulation r s [])) most_keys y j) owned w)))
      ∙ ap (λ x. explained (sources x) (value_below x) (needs x (value_below x)) levels 0 before own) same ∙ ap (λ y. explained (sources m) (value_below m) (needs m (value_below m)) levels 0 before y) owned
    where
      room : levels + 0 ≤ most_keys
      room = omega (arith, low)

-- the same lines, by other words
pub column_done : (a b : Names) (form : Option Form) (told same : Told) (old new : Option (List ℕ)) (f : Followed) → a ≡ b → told ≡ same → IsDone a form told old new f → IsDone b form same old new f
column_done a b form told same old new f names are done = subst (λ n. IsDone n form same old new f) names (subst (λ t. IsDone a form t old new f) are done)
