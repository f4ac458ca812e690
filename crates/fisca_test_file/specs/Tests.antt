-- A file of tests: a test, or a list of tests. Each is a map with `output` and perhaps `name`, `period`, `input`, margins, `keywords` and
-- `description`. Test by test its keys come first, then its situation, then its outputs; the first fault is told.
use Rattle.std.specs.Prelude.{ℕ, List, Option}
use Rattle.fisca_expected.specs.Outputs.{Output}
use Rattle.fisca_situations.specs.Situations.{Situation}
use Rattle.fisca_test_file.specs.declared.margins.Margins.{Margins}

-- its name if it has one, its situation, how far values may be off, and the values that are expected
pub record Test : Type 0 where
  pub name : Option (List ℕ)
  pub situation : Situation
  pub margins : Margins
  pub outputs : List Output
