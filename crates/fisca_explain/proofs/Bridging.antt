-- What a walk says of its situation and of its memory is what it says of what stands below a key.
use Rattle.std.proofs.Common.{◌≡◌, ◌∙◌, ◌-◌, ℕ, suc, List, Option, Some, Bor, ap, sym, subst}
use Rattle.fisca_check.specs.Formulas.{formula_view}
use Rattle.fisca_check.specs.declared.formula.TypedFormula.{TypedFormula}
use Rattle.fisca_memo_theory.specs.Entries.{Entries}
use Rattle.fisca_model.specs.Values.{Key, Value}
use Rattle.fisca_simulation.specs.Simulations.{Simulation, formula_of, sources, variable_of}
use Rattle.fisca_symbols.specs.declared.variable.Variable.{Variable}
use Rattle.fisca_simulation.specs.declared.note.Note.{Note}
use Rattle.fisca_explain.specs.Below.{answers_by}
use Rattle.fisca_explain.specs.Needs.{by_formula, by_variable, needs}
use Rattle.fisca_explain.specs.Origins.{IsOrigin}
use Rattle.fisca_explain.specs.Walks.{CanWalk}
use Rattle.fisca_explain.specs.declared.origin.Origin.{Origin}
use Rattle.fisca_explain.specs.declared.origin.Origin.TheVariants as origin

module _ {R : Type 0} (find : R → Entries) (m n : Simulation) (r s : R) (same : m ≡ n) (recalled : r ≡ s) where
  pub answers_same : (a b : ℕ) (k : Key) → a ≡ b → answers_by (sources m) (find r) a k ≡ answers_by (sources n) (find s) b k
  answers_same a b k left =
      ap (λ x. answers_by (sources x) (find r) a k) same ∙ ap (λ x. answers_by (sources n) (find x) a k) recalled ∙ ap (λ x. answers_by (sources n) (find s) x k) left

  pub walk_same : CanWalk (find s) n → CanWalk (find r) m
  walk_same can = subst (λ x. CanWalk (find r) x) (sym same) (subst (λ x. CanWalk (find x) n) (sym recalled) can)

  -- what the formula of a key needs
  pub needs_same : (a depth : ℕ) (v : Variable) (k : Key) (held : TypedFormula) → a ≡ 100 - suc depth → variable_of n.rules k ≡ Some v → formula_of n.rules n.neutral v k ≡ Some (formula_view held)
      → by_formula m (answers_by (sources m) (find r) a) v k (Some (formula_view held)) ≡ needs n (λ d. answers_by (sources n) (find s) (100 - d)) depth k
  needs_same a depth v k held left there found =
      ap (λ x. by_formula x (answers_by (sources x) (find r) a) v k (Some (formula_view held))) same
      ∙ ap (λ x. by_formula n (answers_by (sources n) (find x) a) v k (Some (formula_view held))) recalled
      ∙ ap (λ x. by_formula n (answers_by (sources n) (find s) x) v k (Some (formula_view held))) left
      ∙ ap (by_formula n (answers_by (sources n) (find s) (100 - suc depth)) v k) (sym found)
      ∙ ap (by_variable n (answers_by (sources n) (find s) (100 - suc depth)) k) (sym there)

-- of a key whose formula is known
pub formula_known : (m n : Simulation) (k : Key) (o : Origin) (v : Bor Variable) (f : Bor TypedFormula) → m ≡ n → IsOrigin m k o → o ≡ origin.Formula v f → IsOrigin n k (origin.Formula v f)
formula_known m n k o v f same is formula = subst (λ x. IsOrigin x k (origin.Formula v f)) same (subst (λ x. IsOrigin m k x) formula is)

pub origin_same : (m n : Simulation) (k : Key) (o : Origin) → m ≡ n → IsOrigin m k o → IsOrigin n k o
origin_same m n k o same is = subst (λ x. IsOrigin x k o) same is
