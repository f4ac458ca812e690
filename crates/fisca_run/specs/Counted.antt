-- Lines that tell of files and counts.
use Rattle.std.specs.Prelude.{ℕ, ◌+◌, ◌-◌, ◌^◌, ◌++◌, min, List, codes}
use Rattle.std.specs.Fmt.{decimal}
use Rattle.fisca_folder.specs.Shown.{shown}
use Rattle.fisca_test_file.specs.Report.{counts_text}
use Rattle.fisca_test_file.specs.declared.all.Verdict.{Verdict}

-- the line above the report on a file
abbrev pub path_line : List ℕ → List ℕ
path_line path = shown path ++ codes "\n"

abbrev pub no_tests : Verdict
no_tests = record { passed = 0; failed = 0 }

-- as far as 64 bits count
abbrev pub counted_on : ℕ → ℕ → ℕ
counted_on total more = min (total + more) (2 ^ 64 - 1)

-- the counts of some files, and of one more
abbrev pub added : Verdict → Verdict → Verdict
added total verdict = record { passed = counted_on total.passed verdict.passed; failed = counted_on total.failed verdict.failed }

abbrev pub counts_line : Verdict → List ℕ
counts_line total = counts_text total.passed total.failed

-- a number and a line feed
abbrev pub size_line : ℕ → List ℕ
size_line size = decimal size ++ codes "\n"
