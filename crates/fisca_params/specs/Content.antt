-- What a map of a parameter file is: a parameter, a scale, or a branch with further nodes.
use Rattle.std.specs.Prelude.{ℕ, Bool, List, Option, Some, None, if◌then◌else◌}
use Rattle.std.specs.Result.{result_ok}
use Rattle.fisca_time.specs.Instant.{CivilDate, instant_of_text}
use Rattle.fisca_yaml.specs.Node.{Node, Entries, no_entries, entry}

-- the line of the first entry that fails a test
abbrev pub first_line : (List ℕ → Node → Bool) → Entries → Option ℕ
first_line passes no_entries = None
first_line passes (entry key line n es) = if passes key n then first_line passes es else Some line

-- A value that holds from a date on, as it is written: what stands at the date or, of a map, its `value`, which is no map.
pub record Written : Type 0 where
  pub date : CivilDate
  pub value : Node

abbrev pub written_if_both : Option CivilDate → Option Node → Option Written
written_if_both None value = None
written_if_both (Some date) None = None
written_if_both (Some date) (Some value) = Some (record { date = date; value = value })

abbrev pub date_of : List ℕ → Option CivilDate
date_of key = result_ok (instant_of_text key)
