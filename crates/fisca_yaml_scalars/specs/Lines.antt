-- The row that a line of the reader stands for.
use Rattle.std.specs.Prelude.{◌≡◌, List, [], Option, Some, None}
use Rattle.fisca_yaml_scalars.specs.Rows.{Row}
use Rattle.fisca_yaml_scalars.specs.declared.line.Line.{Line}

abbrev pub row : Line → Row
row l = record { number = l.number; indent = l.indent; content = l.content.now }

-- where no line is at hand, none is left
abbrev pub Nothing : Option Line → List Row → Type 0
Nothing None left = left ≡ []
Nothing (Some l) left = Unit
