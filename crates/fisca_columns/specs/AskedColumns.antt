-- The keys that columns name, and a column of each.
use Rattle.std.specs.Prelude.{◌≡◌, ℕ, ◌<◌, ◌^◌, IsTrue, List, true, false, is_some, Some}
use Rattle.std.specs.Fmt.{decimal}
use Rattle.fisca_model.specs.declared.key.Key.{Key}
use Rattle.fisca_model.specs.Periods.{fits, key_period}
use Rattle.fisca_groups.specs.Lookup.{count_at}
use Rattle.fisca_groups.specs.declared.entity_members.EntityMembers.{EntityMembers}
use Rattle.fisca_time.specs.Period.{is_period}
use Rattle.fisca_time.specs.PeriodText.{text_of as period_text}
use Rattle.fisca_model.specs.Tables.{Tables, Variable, variable_named}
use Rattle.fisca_columns.specs.Written.{text_of_parts, has_sign, number_sign, at_sign}

-- the key is one of this variable, which is found by its name and asked for, of one of its members, and at a period that it is asked for
pub record IsAsked (c : Tables) (ms : List EntityMembers) (k : Key) (x : Variable) : Type 0 where
  pub found : variable_named c x.name ≡ Some (k.variable, x)
  pub usable : is_some x.value_type ≡ true
  pub no_number_sign : has_sign number_sign x.name ≡ false
  pub no_at_sign : has_sign at_sign x.name ≡ false
  pub member : k.member < count_at ms x.entity
  pub word : k.member < 2 ^ 32
  pub period : IsTrue (is_period k.period)
  pub fit : fits x.definition_period k.period ≡ true
  pub own : key_period x.definition_period k.period ≡ k.period

-- the text `NAME#INDEX@PERIOD` of such a key
abbrev pub column_text : List ℕ → Key → List ℕ
column_text name k = text_of_parts (record { name = name; index = Some (decimal k.member); period = Some (period_text k.period) })
