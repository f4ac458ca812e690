-- Keys and values as the meaning of formulas has them.
use Rattle.fisca_model.specs.declared.key.Key.{Key}
use Rattle.fisca_model.specs.declared.value.Value.{Value}
use Rattle.fisca_model.specs.declared.value.Value.TheVariants as v
use Rattle.fisca_model.specs.Values as values

abbrev pub key_seen : Key → values.Key
key_seen k = record { variable = k.variable; member = k.member; period = k.period }

abbrev pub key_of : values.Key → Key
key_of k = record { variable = k.variable; member = k.member; period = k.period }

abbrev pub value_seen : Value → values.Value
value_seen (v.Number n) = values.number n
value_seen (v.Bool b) = values.bool b
value_seen (v.Member i) = values.member i
