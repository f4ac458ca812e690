use Rattle.std.proofs.Common.{◌≡◌, drop}
use Rattle.fisca_situations.specs.AllAxes.{put_all_in}
use Rattle.fisca_run_file.proofs.sharing.put_all_in.Given as goal

abbrev pub invariant-loop-input : goal.invariant-loop-input
invariant-loop-input l = put_all_in l.given l.moved ≡ put_all_in l.all.items (drop l.input-index l.moved)
