-- The steps of code behind `Leaves`:
-- The nodes of scalars that stand alone on their line.
use Rattle.std.specs.Prelude.{ℕ, List, false, if◌then◌else◌}
use Rattle.fisca_yaml.specs.Node.{Node, null, scalar}
use Rattle.fisca_yaml_scalars.specs.Steps.Scalars.{is_null_word}

-- what a plain scalar stands for
abbrev pub leaf : ℕ → List ℕ → Node
leaf number t = if is_null_word t then null else scalar t false number
