-- What a key's value comes from, in each case.
use Rattle.std.proofs.Common.{◌≡◌, ap, ◌∙◌, refl, Bool, true, false, List, [], ◌∷◌, Option, Some, None, slice_get, if◌then◌else◌, option_map}
use Rattle.fisca_key_semantics.specs.Answers.{refused, known, formula}
use Rattle.fisca_key_semantics.specs.Inquiry.{Inquiry, of_key}
use Rattle.fisca_inputs.specs.Entries.{value_at}
use Rattle.fisca_inputs.specs.Steps.Rules.{default_of}
use Rattle.fisca_model.specs.Seen.{key_of, value_seen}
use Rattle.fisca_model.specs.declared.value.Value.{Value as Input}
use Rattle.fisca_model.specs.Values.{Key}
use Rattle.fisca_groups.specs.Grouped.{grouped}
use Rattle.fisca_typing.specs.Formulas.{Formula}
use Rattle.fisca_symbols.specs.declared.variable.Variable.{Variable}
use Rattle.fisca_inputs.specs.Steps.Inputs.{is_marked}
use Rattle.fisca_rules.specs.Rules.{DatedFormula}
use Rattle.fisca_time.specs.Instant.{CivilDate}
use Rattle.fisca_time.specs.Period.{start_of}
use Rattle.fisca_rules.specs.Steps.InForce.{in_force}
use Rattle.fisca_simulation.specs.Steps.InForce.{has_ended}
use Rattle.fisca_simulation.specs.Simulations.{Simulation, computed, formula_from, formula_of, given_or_computed, known_or_refused, source_of, sources, variable_of, worked_out}
use Rattle.fisca_simulation.specs.Steps.Simulations.{all_dated, are_some, has_formulas}

none_on : (v : Variable) (day : CivilDate) (ended : Bool) → (if ended then None else option_map (λ d. d.formula) (in_force day [])) ≡ None
none_on v day true = refl
none_on v day false = refl

none_from : (ds : List DatedFormula) → are_some ds ≡ false → (v : Variable) (day : Option CivilDate) → formula_from v ds day ≡ None
none_from [] none v None = refl
none_from [] none v (Some day) = none_on v day (has_ended v.end day)
none_from (d ∷ ds) none v day = absurd (cc)

module _ (m : Simulation) (k : Key) where
  pub of_none : variable_of m.rules k ≡ None → sources m k ≡ refused
  of_none e = ap (source_of m k) e

  module _ (w : Variable) (e : variable_of m.rules k ≡ Some w) where
    pub of_input : (x : Input) → value_at m.situation.inputs (key_of k) ≡ Some x → sources m k ≡ known (value_seen x)
    of_input x i = ap (source_of m k) e ∙ ap (given_or_computed m w k) i

    module _ (i : value_at m.situation.inputs (key_of k) ≡ None) where
      computed_so : sources m k ≡ computed m w k (formula_of m.rules m.neutral w k)
      computed_so = ap (source_of m k) e ∙ ap (given_or_computed m w k) i

      pub of_formula : (f : Formula) → formula_of m.rules m.neutral w k ≡ Some f → sources m k ≡ formula (of_key k (worked_out m.rules (grouped m.situation.members) w k f))
      of_formula f h = computed_so ∙ ap (computed m w k) h

      module _ (h : formula_of m.rules m.neutral w k ≡ None) where
        pub of_default : (x : Input) → default_of w.default_value ≡ Some x → sources m k ≡ known (value_seen x)
        of_default x d = computed_so ∙ ap (computed m w k) h ∙ ap known_or_refused d

        pub of_nothing : default_of w.default_value ≡ None → sources m k ≡ refused
        of_nothing d = computed_so ∙ ap (computed m w k) h ∙ ap known_or_refused d

-- a variable without formulas
module _ (m : Simulation) (k : Key) (none : has_formulas m.rules k.variable ≡ false) where
  no_formula_of : (v : Variable) → formula_of m.rules m.neutral v k ≡ None
  no_formula_of v = by (is_marked m.neutral k.variable)
    where
      by : (marked : Bool) → (if marked then None else formula_from v (all_dated (slice_get m.rules.formulas k.variable)) (start_of k.period)) ≡ None
      by true = refl
      by false = none_from (all_dated (slice_get m.rules.formulas k.variable)) none v (start_of k.period)

  not_default : (o : Option Input) (d : Inquiry) → known_or_refused o ≡ formula d → ⊥
  not_default None d h = cc
  not_default (Some x) d h = cc

  not_computed : (v : Variable) (o : Option Formula) (d : Inquiry) → o ≡ None → computed m v k o ≡ formula d → ⊥
  not_computed v None d e h = not_default (default_of v.default_value) d h
  not_computed v (Some f) d e h = cc

  not_given : (v : Variable) (o : Option Input) (d : Inquiry) → given_or_computed m v k o ≡ formula d → ⊥
  not_given v None d h = not_computed v (formula_of m.rules m.neutral v k) d (no_formula_of v) h
  not_given v (Some x) d h = cc

  not_of : (w : Option Variable) (d : Inquiry) → source_of m k w ≡ formula d → ⊥
  not_of None d h = cc
  not_of (Some v) d h = not_given v (value_at m.situation.inputs (key_of k)) d h

  -- does not come from one
  pub no_formula : (d : Inquiry) → sources m k ≡ formula d → ⊥
  no_formula d h = not_of (variable_of m.rules k) d h
