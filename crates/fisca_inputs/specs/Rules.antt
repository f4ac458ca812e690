-- What inputs turn on of a variable, and the periods that one is given for.
use Rattle.std.specs.Prelude.{ℕ, Bool, true, false, ◌&&◌, ◌||◌, Option, Some, None}
use Rattle.fisca_model.specs.Periods.{fits}
use Rattle.fisca_symbols.specs.declared.variable.SetInput.{SetInput}
use Rattle.fisca_symbols.specs.declared.variable.Variable.{Variable}
use Rattle.fisca_time.specs.Period.{Span}
use Rattle.fisca_time.specs.declared.unit.Unit.{Unit}
use Rattle.fisca_model.specs.declared.value.Value.{Value}
use Rattle.fisca_inputs.specs.Steps.Rules.{default_of, is_longer}

-- its entity, its definition period, how longer inputs are shared, and what stands beside another member's input
pub record Rule : Type 0 where
  pub entity : ℕ
  pub unit : Unit
  pub set_input : Option SetInput
  pub default : Option Value

abbrev pub rule_of : Variable → Rule
rule_of x = record { entity = x.entity; unit = x.definition_period; set_input = x.set_input; default = default_of x.default_value }

abbrev pub is_some_rule : Option SetInput → Bool
is_some_rule None = false
is_some_rule (Some s) = true

-- one definition period, or more where there is a rule that shares them; any period for an eternal variable
abbrev pub is_accepted : Rule → Span → Bool
is_accepted r p = fits r.unit p || (is_some_rule r.set_input && is_longer r.unit p)
