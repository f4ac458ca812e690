-- Plans and the formulas of their keys.
use Rattle.std.proofs.Common.{◌≡◌, ℕ, zero, suc, ◌<◌, length, slice_index_or, Bor, IfSome, Bool, true, false, List, [], ◌∷◌, ◌++◌, map, slice_get, Option, Some, None, refl, sym, ap, subst, ◌∙◌}
use Rattle.std.proofs.lemmas.Bool.{false≢true}
use Rattle.std.proofs.lemmas.Option.{none-some, same_Some, slice_get-get_or}
use Rattle.std.specs.Option.{is_some, option_copied}
use Rattle.fisca_key_semantics.specs.Keys.{same_key}
use Rattle.fisca_key_semantics.proofs.KeyFacts.{equal_key}
use Rattle.fisca_key_semantics.specs.Answers.{formula}
use Rattle.fisca_key_semantics.specs.Inquiry.{of_key}
use Rattle.fisca_check.specs.Formulas.{formula_view}
use Rattle.fisca_check.specs.declared.formula.TypedFormula.{TypedFormula as Held}
use Rattle.fisca_inputs.specs.Entries.{value_at}
use Rattle.fisca_model.specs.Seen.{key_of, key_seen}
use Rattle.fisca_inputs.specs.Typed.{IsValueOf}
use Rattle.fisca_model.specs.declared.key.Key.{Key}
use Rattle.fisca_machine.specs.Plans.{plays}
use Rattle.fisca_machine.specs.Running.{before}
use Rattle.fisca_machine.specs.declared.plan.Plan.{Plan}
use Rattle.fisca_model.specs.Values as meaning
use Rattle.fisca_typing.specs.Meaning.{formula_means}
use Rattle.fisca_model.specs.Groups.{Groups}
use Rattle.fisca_ir.specs.Views.{node}
use Rattle.fisca_ir.specs.declared.node.Node.{Node}
use Rattle.fisca_groups.specs.Grouped.{grouped}
use Rattle.fisca_rules.specs.Rules.{Rules}
use Rattle.fisca_rules.specs.Views.{rule_set}
use Rattle.fisca_rules.specs.declared.rule_set.RuleSet.{RuleSet}
use Rattle.fisca_symbols.specs.Known.{tables}
use Rattle.fisca_symbols.specs.declared.variable.Variable.{Variable}
use Rattle.fisca_typing.specs.Formulas.{Formula}
use Rattle.fisca_ops.specs.Casts.{cast}
use Rattle.fisca_simulation.specs.Simulations.{formula_of, start_point, variable_of, worked_out}
use Rattle.fisca_simulation.specs.Sound.{GivesOnly}
use Rattle.fisca_simulation.proofs.Origins.{of_formula}
use Rattle.fisca_simulation.proofs.SourceLookups.{works_soundly}
use Rattle.fisca_simulation.proofs.KnownTables.{tables_known}
use Rattle.fisca_evaluator.specs.Plans.{ArePlans, IsComputed, IsPlanOf, Says, formula_by}
use Rattle.fisca_evaluator.specs.Evaluations.{IsEvaluation, known_in, seen}
use Rattle.fisca_evaluator.specs.Evaluations as evaluations
use Rattle.fisca_evaluator.specs.declared.plans.Planned.{Planned}
use Rattle.fisca_evaluator.specs.declared.evaluation.Evaluation.{Evaluation}

-- what a plan says of the formula that is found it says of the key
pub plan_found : (r : Rules) (neutral : List Bool) (k : meaning.Key) (p : Plan) (v : Variable) (f : Formula) → variable_of r k ≡ Some v → formula_of r neutral v k ≡ Some f
    → ((g : Groups) → worked_out r g v k f ≡ plays p) → IsPlanOf r neutral k p
plan_found r neutral k p v f e h says = (there, says_all)
  where
    there : IsComputed r neutral k
    there = ap (λ o. is_some (formula_by r neutral k o)) e ∙ ap is_some h

    says_all : Says r neutral k p
    says_all v' f' g e' h' =
        let one : v' ≡ v = same_Some v' v (sym e' ∙ e) in
        let same : f' ≡ f = same_Some f' f (sym h' ∙ (ap (λ w. formula_of r neutral w k) one ∙ h)) in
        (λ i. worked_out r g (one i) k (same i)) ∙ says g

-- what a plan of the formula in memory says
pub plan_says : (r : RuleSet) (v : Variable) (f : Held) (k : meaning.Key) (p : Plan)
    → ((ns : List Node) (g : Groups) → before (formula_means (tables r.tables) g (record { values = map node ns; result = node f.result }) (record { entity = v.entity; member = k.member; person = None; period = k.period })) (cast v.value_type) ≡ plays p)
    → (g : Groups) → worked_out (rule_set r) g v k (formula_view f) ≡ plays p
plan_says r v f k p says g = ap (λ t. before (formula_means t g (formula_view f) (start_point v k)) (cast v.value_type)) (sym (tables_known r)) ∙ says f.values.items g

-- a key that is computed has a formula
module _ (r : Rules) (neutral : List Bool) (k : meaning.Key) where
  abbrev Found : Type 0
  Found = (v : Variable) × ((variable_of r k ≡ Some v) × ((f : Formula) × (formula_of r neutral v k ≡ Some f)))

  pub found_formula : IsComputed r neutral k → Found
  found_formula there = by (variable_of r k) refl there
    where
      with : (v : Variable) → variable_of r k ≡ Some v → (o : Option Formula) → formula_of r neutral v k ≡ o → is_some o ≡ true → Found
      with v e None h there = absurd (false≢true there)
      with v e (Some f) h there = (v, (e, (f, h)))

      by : (o : Option Variable) → variable_of r k ≡ o → is_some (formula_by r neutral k o) ≡ true → Found
      by None e there = absurd (false≢true there)
      by (Some v) e there = with v e (formula_of r neutral v k) refl there

-- what a plan says is what a key without an input comes from
pub planned_work : (s : Evaluation) (key : Key) (p : Plan) → IsEvaluation s → IsPlanOf (seen s).rules (seen s).neutral (key_seen key) p → value_at (seen s).situation.inputs (key_of (key_seen key)) ≡ None
    → evaluations.IsWork s (plays p) key
planned_work s key p evaluation is none =
    let m = seen s in
    let k = key_seen key in
    let found = found_formula m.rules m.neutral k is.0 in
    let v = found.0 in
    let e = found.1.0 in
    let f = found.1.1.0 in
    let h = found.1.1.1 in
    let says = is.1 v f (grouped m.situation.members) e h in
    record {
      source = of_formula m k v e none f h ∙ ap (λ d. formula (of_key k d)) says;
      sound = subst (GivesOnly (known_in s) (IsValueOf (known_in s) key.variable)) says (works_soundly m evaluation.safe k v e f h);
    }

-- one plan more
module _ (r : Rules) (neutral : List Bool) (e : Planned) (is : (p : Plan) → e.plan ≡ Some p → IsPlanOf r neutral (key_seen e.key) p) where
  last_plan : (place : ℕ) (x : Planned) (p : Plan) → slice_get (e ∷ []) place ≡ Some x → x.plan ≡ Some p → IsPlanOf r neutral (key_seen x.key) p
  last_plan zero x p at h = subst (λ y. (q : Plan) → y.plan ≡ Some q → IsPlanOf r neutral (key_seen y.key) q) (same_Some e x at) is p h
  last_plan (suc n) x p at h = absurd (none-some x at)

  pub plans_more : (es : List Planned) → ArePlans r neutral es → ArePlans r neutral (es ++ e ∷ [])
  plans_more [] all place x p at h = last_plan place x p at h
  plans_more (y ∷ ys) all zero x p at h = all zero x p at h
  plans_more (y ∷ ys) all (suc n) x p at h = plans_more ys (λ m z q there is_so. all (suc m) z q there is_so) n x p at h

-- what is found at a place of the plans
module _ (r : Rules) (neutral : List Bool) (es : List Planned) (all : ArePlans r neutral es) where
  pub kept_plan : (place : ℕ) (e : Planned) (k : meaning.Key) → place < length es → e ≡ slice_index_or es place e → same_key (key_seen e.key) k ≡ true
      → (o : Option (Bor Plan)) → option_copied o ≡ e.plan → IfSome o (λ p. IsPlanOf r neutral k p.now)
  kept_plan place e k within at same None is = tt
  kept_plan place e k within at same (Some p) is =
      subst (λ q. IsPlanOf r neutral q p.now) (equal_key (key_seen e.key) k same) (all place e p.now (slice_get-get_or es place e within ∙ ap (λ x. Some x) (sym at)) (sym is))

  -- one more, as it was made
  pub kept_more : (key : Key) (o : Option Plan) → IfSome o (λ p. IsPlanOf r neutral (key_seen key) p) → ArePlans r neutral (es ++ record { key = key; plan = o } ∷ [])
  kept_more key o made = plans_more r neutral (record { key = key; plan = o }) (λ p is. subst (λ x. IfSome x (λ q. IsPlanOf r neutral (key_seen key) q)) is made) es all
