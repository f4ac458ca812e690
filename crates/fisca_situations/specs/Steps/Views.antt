-- The steps of code behind `Views`:
-- How definitions see what the code keeps of inputs while they are read, of situations and of slots.
use Rattle.fisca_situations.specs.declared.situation.Situation.{Situation}
use Rattle.fisca_situations.specs.Situations as situations

abbrev pub situation : Situation → situations.Situation
situation s = record { members = s.members; inputs = s.inputs }
