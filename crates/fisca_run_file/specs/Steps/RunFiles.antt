-- The steps of code behind `RunFiles`:
-- A run file: a map of `axes` and perhaps `period`, `input`, `filter`, `columns` and `neutralize`. Its keys come first, then what it neutralises, then
-- the situation of its input, then its axes, its columns and its conditions; the first fault is told.
use Rattle.std.specs.Prelude.{List, map, Result, Ok}
use Rattle.fisca_groups.specs.Lookup.{counts_of}
use Rattle.fisca_inputs.specs.Entries.{Entries}
use Rattle.fisca_inputs.specs.Inputs.{inputs_of, without_marked}
use Rattle.fisca_inputs.specs.Rules.{rule_of}
use Rattle.fisca_inputs.specs.declared.fault.SituationFault.{SituationFault}
use Rattle.fisca_inputs.specs.declared.given.Given.{Given}
use Rattle.fisca_num.specs.Results.{and_then}
use Rattle.fisca_situations.specs.AllAxes.{put_all_in}
use Rattle.fisca_symbols.specs.declared.tables.Tables.{Tables}
use Rattle.fisca_run_file.specs.RunFiles.{BaseSituation}

-- The axes

-- all inputs with those that axes move, shared, without those of neutralised variables
abbrev pub inputs_by : Tables → BaseSituation → List Given → Result Entries SituationFault
inputs_by c s moved = and_then (inputs_of (map rule_of c.variables) (counts_of s.members) (put_all_in s.given moved)) (λ es. Ok (without_marked s.neutral es))
