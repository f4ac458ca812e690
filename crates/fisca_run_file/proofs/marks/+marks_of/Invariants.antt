use Rattle.std.proofs.Common.{length}
use Rattle.fisca_run_file.proofs.marks.+marks_of.Given as goal

abbrev pub decreases-marks_of : goal.decreases-marks_of
decreases-marks_of l = length l.slots.now
