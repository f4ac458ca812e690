-- How definitions see what the code keeps of a column's text.
use Rattle.std.specs.Prelude.{option_map}
use Rattle.fisca_columns.specs.declared.written.Parts.{Parts}
use Rattle.fisca_columns.specs.Written as written

abbrev pub parts : Parts → written.Parts
parts w = record { name = w.name.now; index = option_map (λ t. t.now) w.index; period = option_map (λ t. t.now) w.period }
