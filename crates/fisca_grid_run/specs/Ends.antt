-- How runs end, and what they leave.
use Rattle.std.specs.Prelude.{◌≡◌, ◌⊎◌, ◌↔◌, ◌<◌, ◌≤◌, ⊤, ℕ, Bool, true, Some, Result, Ok, Err}
use Rattle.fisca_writer.specs.Ranges.{stop_of as stop_in}
use Rattle.fisca_writer.specs.declared.limit.Limit.{Limit}
use Rattle.fisca_writer.specs.declared.fault.RunEnd.{RunEnd}
use Rattle.fisca_writer.specs.declared.fault.RunEnd.TheVariants as end
use Rattle.fisca_grid_run.specs.Runs.{LacksValue, positions}
use Rattle.fisca_rows.specs.declared.style.RowStyle.{RowStyle}
use Rattle.fisca_rules.specs.declared.rule_set.RuleSet.{RuleSet}
use Rattle.fisca_run_file.specs.RunFiles.{RunFile}

-- an answer without the counts
abbrev pub end_of : {E C : Type 0} → Result (RunEnd × C) E → Result RunEnd E
end_of (Ok ended) = Ok ended.0
end_of (Err e) = Err e

-- the first position that was not worked out
abbrev pub stop_of : RunFile → RunEnd → ℕ
stop_of f end.End = positions f
stop_of f (end.More position) = position

-- a run ends before a row is worked out: no position is left from its start on, or it is to end there, or to have no line
abbrev pub IsAtOnce : ℕ → ℕ → Limit → RunEnd → Type 0
IsAtOnce size from limit end.End = from ≡ size
IsAtOnce size from limit (end.More position) = (position ≡ from) × (from < size) × ((stop_in size limit ≤ from) ⊎ (limit.rows ≡ Some 0))

-- a run that nothing stopped tells whether a row had a word in the place of a value, if it was not so before
abbrev pub HasLacked : {E : Type 0} → RuleSet → RowStyle → RunFile → ℕ → Bool → Bool → Result RunEnd E → Type 0
HasLacked rules style f from old new (Ok end) = (new ≡ true) ↔ ((old ≡ true) ⊎ LacksValue rules style f from (stop_of f end))
HasLacked rules style f from old new (Err e) = ⊤
