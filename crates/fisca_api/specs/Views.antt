-- How definitions see situations.
use Rattle.std.specs.Prelude.{ℕ}
use Rattle.fisca_model.specs.Values.{Key}
use Rattle.fisca_situations.specs.Steps.Views.{situation as shared_view}
use Rattle.fisca_api.specs.Marks.{wheels_at}
use Rattle.fisca_api.specs.Situations as situations
use Rattle.fisca_api.specs.declared.situation.Situation.{Situation}

abbrev pub situation : Situation → situations.Situation
situation s = record { given = s.given.items; shared = shared_view s.shared; neutral = s.neutral.items }

-- the wheels of each key's variable, as the bits of numbers
abbrev pub marks : Situation → Key → ℕ
marks s k = wheels_at s.wheels.items k.variable
