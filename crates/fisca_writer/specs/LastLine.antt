-- The line that tells how a run ended.
use Rattle.std.specs.Prelude.{ℕ, ◌++◌, List, codes}
use Rattle.std.specs.Fmt.{decimal}
use Rattle.fisca_writer.specs.declared.fault.RunEnd.{RunEnd}
use Rattle.fisca_writer.specs.declared.fault.RunEnd.TheVariants.{End, More}

-- `end`, or `more` and the position from which a further run continues
abbrev pub end_text : RunEnd → List ℕ
end_text End = codes "end"
end_text (More position) = codes "more " ++ decimal position

-- the same with a line feed
abbrev pub last_line : RunEnd → List ℕ
last_line End = codes "end\n"
last_line (More position) = codes "more " ++ (decimal position ++ codes "\n")
