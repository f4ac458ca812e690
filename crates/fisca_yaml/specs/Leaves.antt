-- The nodes of scalars that stand alone on their line.
use Rattle.std.specs.Prelude.{ℕ, List, true, false, not, ◌&&◌, if◌then◌else◌, Option, Some, None, is_some}
use Rattle.fisca_yaml.specs.Node.{Node, scalar}
use Rattle.fisca_yaml_scalars.specs.Scalars.{Read, before_comment, key_split}
use Rattle.fisca_yaml_scalars.specs.Steps.Scalars.{ends_line, trim_end, may_begin}
use Rattle.fisca_yaml.specs.Steps.Leaves.{leaf}

-- a plain value up to the line's end; a colon before a blank may not stand in it
abbrev pub plain_value : ℕ → List ℕ → Option Node
plain_value number bs = if may_begin bs && not (is_some (key_split false bs)) then Some (leaf number (trim_end (before_comment false bs))) else None

abbrev pub quoted_value : ℕ → Read → Option Node
quoted_value number None = None
quoted_value number (Some p) = if ends_line p.1 then Some (scalar p.0 true number) else None
