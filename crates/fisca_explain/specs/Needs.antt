-- What the formulas of keys need, in a situation under a rule set.
use Rattle.std.specs.Prelude.{ℕ, suc, List, [], Option, Some, None}
use Rattle.fisca_groups.specs.Grouped.{grouped}
use Rattle.fisca_model.specs.Values.{Key, Value}
use Rattle.fisca_ops.specs.Casts.{cast}
use Rattle.fisca_rules.specs.Rules.{known_by}
use Rattle.fisca_simulation.specs.Simulations.{Simulation, formula_of, start_point, variable_of}
use Rattle.fisca_symbols.specs.declared.variable.Variable.{Variable}
use Rattle.fisca_typing.specs.Formulas.{Formula}
use Rattle.fisca_simulation.specs.NotedFormulas.{noted_formula}
use Rattle.fisca_simulation.specs.Noted.{Noted, behind, unread}
use Rattle.fisca_simulation.specs.Played.{played}
use Rattle.fisca_simulation.specs.declared.note.Note.{Note}

-- what a formula gives, as a value of its variable, noted
abbrev pub noted_work : Simulation → Variable → Key → Formula → Noted
noted_work m v k f = behind (noted_formula (known_by m.rules) (grouped m.situation.members) f (start_point v k)) (λ x. unread (cast v.value_type x))

abbrev pub by_formula : Simulation → (Key → Option Value) → Variable → Key → Option Formula → List Note
by_formula m W v k None = []
by_formula m W v k (Some f) = (played W (noted_work m v k f)).notes

abbrev pub by_variable : Simulation → (Key → Option Value) → Key → Option Variable → List Note
by_variable m W k None = []
by_variable m W k (Some v) = by_formula m W v k (formula_of m.rules m.neutral v k)

-- of a key below so many others, where W says the values of keys below so many
abbrev pub needs : Simulation → (ℕ → Key → Option Value) → ℕ → Key → List Note
needs m W depth k = by_variable m (W (suc depth)) k (variable_of m.rules k)
