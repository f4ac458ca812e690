-- The texts of keys and values, as they are printed.
use Rattle.std.specs.Prelude.{ℕ, List, ◌++◌, Bool, if◌then◌else◌, slice_get, codes}
use Rattle.fisca_model.specs.declared.value.Value.{Value}
use Rattle.fisca_model.specs.declared.value.Value.TheVariants as v
use Rattle.fisca_model.specs.declared.key.Key.{Key}
use Rattle.fisca_groups.specs.declared.entity_members.EntityMembers.{EntityMembers}
use Rattle.fisca_num.specs.Text.{text_of as number_text}
use Rattle.fisca_time.specs.PeriodText.{text_of as period_text}
use Rattle.fisca_model.specs.Tables.{Tables}
use Rattle.fisca_columns.specs.Steps.Texts.{name_of, member_of, choice_at}

-- a name, and a text behind it
abbrev pub named : List ℕ → List ℕ → List ℕ
named between name = name ++ between

abbrev pub key_by : List ℕ → List ℕ → List ℕ → List ℕ → List ℕ
key_by between name member period = named between name ++ (named between member ++ period)

-- the variable, the member's name and the period, with this text between them
abbrev pub key_text : List ℕ → Tables → List EntityMembers → Key → List ℕ
key_text between c ms k =
    let x = slice_get c.variables k.variable in key_by between (name_of x) (member_of ms k.member x) (period_text k.period)

abbrev pub bool_text : Bool → List ℕ
bool_text b = if b then codes "true" else codes "false"

-- the value of a variable: a number's text, `true` or `false`, or the name of a member of its Enum
abbrev pub value_text : Tables → ℕ → Value → List ℕ
value_text c place (v.Number n) = number_text n
value_text c place (v.Bool b) = bool_text b
value_text c place (v.Member i) = choice_at c (slice_get c.variables place) i
