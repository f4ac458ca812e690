-- The formulas of a rule set are those that it holds, as they are seen.
use Rattle.std.proofs.Common.{◌≡◌, List, [], ◌∷◌, map, Bool, true, false, if◌then◌else◌, Option, Some, None, option_map, slice_get, refl, subst, sym, ◌∙◌, ap}
use Rattle.std.specs.Ordering.{is_gt}
use Rattle.std.proofs.lemmas.Option.{slice_get-map}
use Rattle.fisca_check.specs.Formulas.{formula_view}
use Rattle.fisca_check.specs.declared.formula.TypedFormula.{TypedFormula}
use Rattle.fisca_inputs.specs.Steps.Inputs.{is_marked}
use Rattle.fisca_model.specs.Values.{Key}
use Rattle.fisca_rules.specs.Rules.{DatedFormula}
use Rattle.fisca_rules.specs.Steps.InForce.{has_started, in_force, later, latest_of, latest_with}
use Rattle.fisca_rules.specs.Views.{dated, rule_set}
use Rattle.fisca_rules.specs.declared.dated.DatedFormula.{DatedFormula as Held}
use Rattle.fisca_rules.specs.declared.formulas.TypedFormulas.{TypedFormulas}
use Rattle.fisca_rules.specs.declared.rule_set.RuleSet.{RuleSet}
use Rattle.fisca_simulation.specs.Simulations.{formula_from, formula_of, formula_on}
use Rattle.fisca_simulation.specs.Steps.InForce.{has_ended}
use Rattle.fisca_simulation.specs.Steps.Simulations.{all_dated}
use Rattle.fisca_symbols.specs.declared.variable.Variable.{Variable}
use Rattle.fisca_time.specs.Instant.{CivilDate, date_cmp}
use Rattle.fisca_time.specs.Period.{start_of}
use Rattle.fisca_typing.specs.Formulas.{Formula}

abbrev pub IsView : Formula → Type 0
IsView f = (held : TypedFormula) × (f ≡ formula_view held)

abbrev IsViewAt : Option DatedFormula → Type 0
IsViewAt None = Unit {0}
IsViewAt (Some d) = IsView d.formula

abbrev pub IsViewIn : Option Formula → Type 0
IsViewIn None = Unit {0}
IsViewIn (Some f) = IsView f

later_view : (found : Option DatedFormula) (d : Held) → IsViewAt found → IsView (later found (dated d)).formula
later_view None d h = (d.formula, refl)
later_view (Some e) d h = by (is_gt (date_cmp (dated d).start e.start))
  where
    by : (b : Bool) → IsView (if b then dated d else e).formula
    by true = (d.formula, refl)
    by false = h

with_view : (day : CivilDate) (found : Option DatedFormula) (d : Held) → IsViewAt found → IsViewAt (latest_with day found (dated d))
with_view day found d h = by (has_started day (dated d))
  where
    by : (b : Bool) → IsViewAt (if b then Some (later found (dated d)) else found)
    by true = later_view found d h
    by false = h

latest_view : (day : CivilDate) (found : Option DatedFormula) (ds : List Held) → IsViewAt found → IsViewAt (latest_of day found (map dated ds))
latest_view day found [] h = h
latest_view day found (d ∷ ds) h = latest_view day (latest_with day found (dated d)) ds (with_view day found d h)

formula_view_in : (o : Option DatedFormula) → IsViewAt o → IsViewIn (option_map (λ d. d.formula) o)
formula_view_in None h = tt
formula_view_in (Some d) h = h

on_day : (v : Variable) (ds : List Held) (day : CivilDate) → IsViewIn (formula_on v (map dated ds) day)
on_day v ds day = by (has_ended v.end day)
  where
    by : (b : Bool) → IsViewIn (if b then None else option_map (λ d. d.formula) (in_force day (map dated ds)))
    by true = tt
    by false = formula_view_in (in_force day (map dated ds)) (latest_view day None ds tt)

from_day : (v : Variable) (ds : List Held) (start : Option CivilDate) → IsViewIn (formula_from v (map dated ds) start)
from_day v ds None = tt
from_day v ds (Some day) = on_day v ds day

held_view : (v : Variable) (o : Option TypedFormulas) (start : Option CivilDate) → IsViewIn (formula_from v (all_dated (option_map (λ gs. map dated gs.items.items) o)) start)
held_view v None start = from_day v [] start
held_view v (Some gs) start = from_day v gs.items.items start

pub formulas_are_views : (r : RuleSet) (neutral : List Bool) (v : Variable) (k : Key) → IsViewIn (formula_of (rule_set r) neutral v k)
formulas_are_views r neutral v k = by (is_marked neutral k.variable)
  where
    by : (b : Bool) → IsViewIn (if b then None else formula_from v (all_dated (slice_get (rule_set r).formulas k.variable)) (start_of k.period))
    by true = tt
    by false =
        subst (λ o. IsViewIn (formula_from v (all_dated o) (start_of k.period))) (sym (slice_get-map (λ gs. map dated gs.items.items) r.formulas.items k.variable))
        (held_view v (slice_get r.formulas.items k.variable) (start_of k.period))
