-- The inputs of members, as they are given: from top to bottom, up to the first fault.
use Rattle.std.specs.Prelude.{ℕ}
use Rattle.fisca_symbols.specs.declared.variable.Variable.{Variable}

-- for whom and when values of a variable are given
pub record Place : Type 0 where
  pub variable : ℕ
  pub declared : Variable
  pub member : ℕ
