-- The expected values of a test, as they are written: from top to bottom, up to the first fault.
use Rattle.std.specs.Prelude.{ℕ, suc}
use Rattle.fisca_yaml.specs.Node.{Items, no_items, item}

-- Values at a period

abbrev pub count_of : Items → ℕ
count_of no_items = 0
count_of (item line n is) = suc (count_of is)
