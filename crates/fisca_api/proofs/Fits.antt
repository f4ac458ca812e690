-- Inputs that are given and shared are of the types of their variables.
use Rattle.std.proofs.Common.{◌≡◌, List, map, Bool, sym, subst}
use Rattle.std.specs.Prelude.{Ok}
use Rattle.fisca_groups.specs.Lookup.{counts_of}
use Rattle.fisca_inputs.proofs.Typed.{input_typed, inputs_typed}
use Rattle.fisca_inputs.specs.Rules.{rule_of}
use Rattle.fisca_inputs.specs.Typed.{DefaultsTyped, IsValueOf}
use Rattle.fisca_inputs.specs.declared.given.Given.{Given}
use Rattle.fisca_model.specs.Seen.{value_seen}
use Rattle.fisca_api.proofs.Turns.{shared}
use Rattle.fisca_api.specs.Axes.{AreGiven}
use Rattle.fisca_rules.specs.Views.{rule_set}
use Rattle.fisca_rules.specs.declared.rule_set.RuleSet.{RuleSet}
use Rattle.fisca_simulation.proofs.Fitting.{defaults_typed, fits_left}
use Rattle.fisca_simulation.proofs.KnownTables.{tables_known}
use Rattle.fisca_simulation.specs.Sound.{InputsFit, IsSafeRules}
use Rattle.fisca_situations.specs.Situations.{Situation}
use Rattle.fisca_situations.specs.Steps.Axes.{shared_anew}
use Rattle.fisca_symbols.specs.Known.{tables as known}

pub given_fit : (rules : RuleSet) → IsSafeRules (rule_set rules) → (neutral : List Bool) (s : Situation) (gs : List Given) → AreGiven rules.tables gs
    → shared_anew rules.tables neutral s.members gs ≡ Ok s.inputs → InputsFit (rule_set rules) s
given_fit rules safe neutral s gs given h =
    let c = known rules.tables in
    let same = tables_known rules in
    let before = shared rules.tables neutral s.members gs s.inputs h in
    let defaults = subst (λ d. DefaultsTyped d (map rule_of rules.tables.variables)) (sym same) (defaults_typed rules safe.defaults) in
    let typed = inputs_typed c (map rule_of rules.tables.variables) (counts_of s.members) gs defaults before.all given.typed before.shares in
    fits_left (rule_set rules) neutral (record { members = s.members; inputs = before.all }) s
    (λ k w there. subst (λ d. IsValueOf d k.variable (value_seen w)) same (input_typed c before.all typed k w there)) (sym before.left)
