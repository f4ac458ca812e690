-- What a formula's result becomes as a value of its variable.
use Rattle.std.specs.Prelude.{not}
use Rattle.fisca_num.specs.Number.{trunc_of}
use Rattle.fisca_model.specs.Values.{Value, number, bool, member}
use Rattle.fisca_key_semantics.specs.Dialogues.{Dialogue, gives, stuck, with_number, with_member}
use Rattle.fisca_symbols.specs.declared.variable.DeclaredType.{DeclaredType}
use Rattle.fisca_symbols.specs.declared.variable.DeclaredType.TheVariants as declared
use Rattle.fisca_ops.specs.Steps.Casts.{if_int, is_zero}

-- A bool counts as 0 or 1. A whole number is cut towards 0; a bool is whether the number is another than 0. Formulas of days and texts have no values.
abbrev pub cast : DeclaredType → Value → Dialogue
cast declared.Float v = with_number v (λ n. gives (number n))
cast declared.Int v = with_number v (λ n. if_int (trunc_of n))
cast declared.Bool v = with_number v (λ n. gives (bool (not (is_zero n))))
cast declared.Date v = stuck
cast declared.Text v = stuck
cast (declared.Enum e) v = with_member v (λ i. gives (member i))
