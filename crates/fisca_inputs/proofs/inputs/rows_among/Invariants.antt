use Rattle.std.proofs.Common.{◌≡◌, drop}
use Rattle.std.specs.List.{AllByRecursion}
use Rattle.std.specs.Map.{keys_of}
use Rattle.fisca_inputs.specs.Defaults.{HaveFirst, rows_of, rows_with}
use Rattle.fisca_inputs.proofs.inputs.rows_among.Given as goal

-- those of the entries that are left, beside those so far
abbrev pub invariant-loop-entry : goal.invariant-loop-entry
invariant-loop-entry l = record {
  rows : rows_with (keys_of l.rows.entries) (drop l.entry-index l.entries) ≡ rows_of l.entries;
  first : AllByRecursion (HaveFirst l.entries) l.rows.entries;
}
