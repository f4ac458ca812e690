-- Where the situations of tests come from.
use Rattle.std.specs.Prelude.{◌≡◌, ℕ, Option, Ok}
use Rattle.fisca_situations.specs.Situations.{Situation}
use Rattle.fisca_situations.specs.Steps.Situations.{situation_of}
use Rattle.fisca_symbols.specs.declared.tables.Tables.{Tables}
use Rattle.fisca_time.specs.Period.{Span}
use Rattle.fisca_yaml.specs.Node.{Node}

-- some input was read as this situation, at some default period
pub record IsRead (c : Tables) (s : Situation) : Type 0 where
  pub default : Option Span
  pub line : ℕ
  pub input : Node
  pub is : situation_of c default line input ≡ Ok s
