-- How definitions see what the code keeps of a date map.
use Rattle.fisca_yaml.specs.Views.{node}
use Rattle.fisca_params.specs.Content.{Written}
use Rattle.fisca_params.specs.declared.written.Written.{Written as Kept}

-- what stands at a date
abbrev pub seen : Kept → Written
seen w = record { date = w.date; value = node w.value.now }
