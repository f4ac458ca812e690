-- The steps of code behind `FaultLines`:
-- Which line of a file does not fit.
use Rattle.std.specs.Prelude.{ℕ, if◌then◌else◌}
use Rattle.std.specs.Option.{unwrap_or}
use Rattle.fisca_yaml.specs.Find.{begins_on}
use Rattle.fisca_yaml.specs.Node.{Node}
use Rattle.fisca_params.specs.Steps.Content.{is_map}

-- of a scalar its own, of a list that of its first item, else the one given, which is that of its key
abbrev pub line_of : ℕ → Node → ℕ
line_of given n = if is_map n then given else unwrap_or (begins_on n) given
