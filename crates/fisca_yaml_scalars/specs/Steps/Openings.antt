-- What begins with a line.
use Rattle.std.specs.Prelude.{ℕ, List, Bool, not, ◌||◌, ◌&&◌, is_some}
use Rattle.fisca_yaml_scalars.specs.Characters.{greater, open_bracket, open_brace, bar}
use Rattle.fisca_yaml_scalars.specs.Rows.{Row}
use Rattle.fisca_yaml_scalars.specs.Steps.Rows.{begins, begins_item}
use Rattle.fisca_yaml_scalars.specs.Scalars.{entry_of}

abbrev pub is_bracket : List ℕ → Bool
is_bracket bs = begins open_bracket bs || begins open_brace bs

-- a list or a map begins here
abbrev pub opens : Row → Bool
opens r = begins_item r.content || is_some (entry_of r.content)

abbrev pub begins_text : Row → Bool
begins_text r = begins bar r.content || begins greater r.content

-- a list or a map begins behind a dash, where `|` and `>` begin a block text
abbrev pub opens_item : Row → Bool
opens_item r = not (begins_text r) && opens r
