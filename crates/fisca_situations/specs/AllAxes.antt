-- The inputs that several axes move, beside those that are given.
use Rattle.std.specs.Prelude.{List, [], ◌∷◌, Bool, ◌||◌}
use Rattle.fisca_inputs.specs.declared.given.Given.{Given}
use Rattle.fisca_situations.specs.Steps.Axes.{put_in}
use Rattle.fisca_inputs.specs.Steps.Overlaps.{meets, overlaps}

-- It moves what an earlier axis moves, or what an input says for another period. An input of just this period is replaced.
abbrev pub is_overlap : List Given → List Given → Given → Bool
is_overlap given before g = meets before g.variable g.member g.period || overlaps given g.variable g.member g.period

-- each put in, or in the place of that of just its variable, member and period
abbrev pub put_all_in : List Given → List Given → List Given
put_all_in given [] = given
put_all_in given (g ∷ gs) = put_all_in (put_in given g) gs
