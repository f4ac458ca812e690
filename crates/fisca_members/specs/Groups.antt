-- The groups of an input, and which person belongs to which, in which role.
use Rattle.std.specs.Prelude.{ℕ}
use Rattle.fisca_model.specs.Tables.{Role}

-- a role of a group that persons are given
pub record Post : Type 0 where
  pub group : ℕ
  pub place : ℕ
  pub role : Role
