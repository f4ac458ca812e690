-- The inputs of a situation are of the types of their variables.
use Rattle.std.proofs.Common.{◌≡◌, ℕ, zero, suc, List, [], ◌∷◌, map, slice_get, Bool, true, false, cond, not, Option, Some, None, Ok, refl, ap, sym, subst, ◌∙◌}
use Rattle.std.proofs.lemmas.Bool.{and_parts, eqb-true}
use Rattle.std.proofs.lemmas.Map.Entries.{lookup-filter-keys}
use Rattle.fisca_inputs.specs.Entries.{same_key, value_at}
use Rattle.fisca_inputs.specs.Inputs.{without_marked}
use Rattle.fisca_inputs.specs.Steps.Inputs.{is_marked}
use Rattle.fisca_inputs.specs.Rules.{Rule, rule_of}
use Rattle.fisca_inputs.specs.Steps.Rules.{default_of}
use Rattle.fisca_model.specs.Seen.{value_seen}
use Rattle.fisca_inputs.specs.Typed.{DefaultsTyped, IsValueOf, is_typed}
use Rattle.fisca_model.specs.declared.value.Value.{Value}
use Rattle.fisca_model.specs.declared.key.Key.{Key}
use Rattle.fisca_rules.specs.Rules.{Rules, known_by}
use Rattle.fisca_rules.specs.Safety.{DefaultsFit}
use Rattle.fisca_rules.specs.Views.{rule_set}
use Rattle.fisca_rules.specs.declared.rule_set.RuleSet.{RuleSet}
use Rattle.fisca_situations.specs.Situations.{Situation}
use Rattle.fisca_situations.specs.Steps.Situations.{situation_of}
use Rattle.fisca_situations.proofs.Typed.{situation_typed}
use Rattle.fisca_simulation.specs.Sound.{InputsFit, IsSafeRules}
use Rattle.fisca_simulation.proofs.SourceLookups.{default_at, default_typed, type_at}
use Rattle.fisca_symbols.specs.declared.variable.Variable.{Variable}
use Rattle.fisca_time.specs.Period.{Span}
use Rattle.fisca_model.specs.Tables as typing
use Rattle.fisca_yaml.specs.Node.{Node}
use Rattle.fisca_simulation.proofs.KnownTables.{tables_known}

-- Defaults

-- the variable whose default it is
declared_at : (vs : List Variable) (x : ℕ) (r : Rule) (w : Value) → slice_get (map rule_of vs) x ≡ Some r → r.default ≡ Some w
    → (v : Variable) × (slice_get vs x ≡ Some v) × (default_of v.default_value ≡ Some w)
declared_at [] x r w h k = cc
declared_at (v ∷ vs) zero r w h k = let same : rule_of v ≡ r = cc in (v, refl, ap (λ (z : Rule). z.default) same ∙ k)
declared_at (v ∷ vs) (suc x) r w h k = declared_at vs x r w h k

pub defaults_typed : (r : RuleSet) → DefaultsFit (rule_set r) → DefaultsTyped (known_by (rule_set r)) (map rule_of r.tables.variables)
defaults_typed r fit x rule w h k =
    let c = known_by (rule_set r) in
    let found = declared_at r.tables.variables x rule w h k in
    let v = found.0 in
    let vs = (rule_set r).variables in
    subst (λ t. is_typed c t (value_seen w) ≡ true) (sym (type_at vs x v found.1))
    (default_typed c v.value_type v.default_value w (default_at c.enums vs fit x v found.1) found.2)

-- A situation that was read

abbrev Fit : Situation → typing.Tables → Type 0
Fit s c = (k : Key) (w : Value) → value_at s.inputs k ≡ Some w → IsValueOf c k.variable (value_seen w)

pub read_fits : (rules : RuleSet) → IsSafeRules (rule_set rules) → (default : Option Span) (line : ℕ) (n : Node) (s : Situation) → situation_of rules.tables default line n ≡ Ok s → InputsFit (rule_set rules) s
read_fits rules safe default line n s h =
    let same = tables_known rules in
    let typed = subst (λ c. DefaultsTyped c (map rule_of rules.tables.variables)) (sym same) (defaults_typed rules safe.defaults) in
    subst (Fit s) same (situation_typed rules.tables default line n s typed h)

-- Neutralised variables

-- keys that are the same have one variable
same_mark : (marks : List Bool) (k q : Key) → same_key k q ≡ true → not (is_marked marks q.variable) ≡ not (is_marked marks k.variable)
same_mark marks k q h = ap (λ x. not (is_marked marks x)) (sym (eqb-true k.variable q.variable (and_parts _ _ h).0))

kept_is : (b : Bool) (o : Option Value) (w : Value) → cond b o None ≡ Some w → o ≡ Some w
kept_is true o w h = h
kept_is false o w h = cc

pub fits_left : (r : Rules) (marks : List Bool) (s left : Situation) → InputsFit r s → left.inputs ≡ without_marked marks s.inputs → InputsFit r left
fits_left r marks s left fit is k w h =
    let looked = lookup-filter-keys (same_key k) (λ q. not (is_marked marks q.variable)) (not (is_marked marks k.variable)) (same_mark marks k) s.inputs in
    fit k w (kept_is (not (is_marked marks k.variable)) (value_at s.inputs k) w (sym looked ∙ sym (ap (λ es. value_at es k) is) ∙ h))
