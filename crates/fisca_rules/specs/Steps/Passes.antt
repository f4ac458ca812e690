-- The second pass, line by line.
use Rattle.std.specs.Prelude.{ℕ, List, [], ◌∷◌, Result, Ok}
use Rattle.fisca_num.specs.Results.{and_then}
use Rattle.fisca_ast.specs.Modules.{Item}
use Rattle.fisca_rules.specs.declared.build_fault.BuildFault.{BuildFault}
use Rattle.fisca_rules.specs.FirstPass.{told_at}
use Rattle.fisca_declarations.specs.declared.attributes.Attributes.{Attributes}
use Rattle.fisca_declarations.specs.declared.declared.Declared.{Declared}
use Rattle.fisca_declarations.specs.declared.types.TypeLines.{TypeLines}
use Rattle.fisca_declarations.specs.Lines.{Before}
use Rattle.fisca_declarations.specs.Steps.Lines.{behind_line}
use Rattle.fisca_rules.specs.Build.{line_of_item}

-- what the lines of a variable say, each behind those before it
abbrev pub lines_read : Declared → ℕ → TypeLines → Before → Attributes → List Item → Result Attributes BuildFault
lines_read c place k b s [] = Ok s
lines_read c place k b s (x ∷ xs) =
    and_then (told_at place (line_of_item x) (behind_line c k b s x)) (λ n. lines_read c place k n.0 n.1 xs)
