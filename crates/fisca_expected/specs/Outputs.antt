-- The values that are expected of keys, in the order in which they are written.
use Rattle.std.specs.Prelude.{ℕ, List, [], ◌∷◌, map}
use Rattle.std.specs.List.{range_with_len}
use Rattle.fisca_inputs.specs.Entries.{key}
use Rattle.fisca_model.specs.declared.value.Value.{Value}
use Rattle.fisca_model.specs.declared.key.Key.{Key}
use Rattle.fisca_symbols.specs.declared.variable.Variable.{Variable}
use Rattle.fisca_time.specs.Period.{Span}
use Rattle.fisca_expected.specs.declared.whom.ExpectedMembers.{ExpectedMembers}
use Rattle.fisca_expected.specs.declared.whom.ExpectedMembers.TheVariants.{Each, One}

-- a key, and the value that is expected of it
abbrev pub Output : Type 0
Output = Key × Value

-- what values are expected of: a variable, and its members
pub record Subject : Type 0 where
  pub variable : ℕ
  pub declared : Variable
  pub whom : ExpectedMembers

abbrev pub output : Subject → Span → Value → ℕ → Output
output x p v member = (key x.variable member p, v)

-- one member, or so many from the first on
abbrev pub members_of : ExpectedMembers → List ℕ
members_of (Each count) = range_with_len 0 count
members_of (One member) = member ∷ []

-- a scalar is expected of each of them, in their order
abbrev pub of_each : Subject → Span → Value → List Output
of_each x p v = map (output x p v) (members_of x.whom)
