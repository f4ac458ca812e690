-- What a value is of, and what it is.
use Rattle.std.specs.Prelude.{ℕ, Bool}
use Rattle.fisca_num.specs.Number.{Number}
use Rattle.fisca_time.specs.Period.{Span}

-- a member of an Enum is given by its place
pub data Value : Type 0 where
  number : Number → Value
  bool : Bool → Value
  member : ℕ → Value

-- a variable, a member of its entity, and a period
pub record Key : Type 0 where
  pub variable : ℕ
  pub member : ℕ
  pub period : Span
