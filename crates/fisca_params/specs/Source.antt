-- What a contract sees of a `SourceFile`.
use Rattle.std.specs.Prelude.{ℕ, List}

-- the bytes of a file's path and of its text
pub record Source : Type 0 where
  pub path : List ℕ
  pub text : List ℕ
