-- What stands for a value of a variable.
use Rattle.std.specs.Prelude.{Bool, is_some, option_map}
use Rattle.fisca_model.specs.declared.value.Value.TheVariants as v
use Rattle.fisca_symbols.specs.declared.variable.DeclaredType.{DeclaredType}
use Rattle.fisca_symbols.specs.declared.variable.DeclaredType.TheVariants as type
use Rattle.fisca_model.specs.Tables.{Tables}
use Rattle.fisca_yaml.specs.Steps.Find.{as_number, as_text}
use Rattle.fisca_yaml.specs.Node.{Node}
use Rattle.fisca_situations.specs.declared.said.Said.{Said}
use Rattle.fisca_situations.specs.Steps.Values.{bool_in, member_in, int_in, is_day, input_or, unused_if}

abbrev pub day_in : Node → Bool
day_in n = is_day (as_text n)

-- what stands for a value of a variable of this type
abbrev pub said : Tables → DeclaredType → Node → Said
said c type.Float n = input_or (option_map v.Number (as_number n))
said c type.Int n = input_or (option_map v.Number (int_in n))
said c type.Bool n = input_or (option_map v.Bool (bool_in n))
said c type.Date n = unused_if (day_in n)
said c type.Text n = unused_if (is_some (as_text n))
said c (type.Enum e) n = input_or (option_map v.Member (member_in c e n))
