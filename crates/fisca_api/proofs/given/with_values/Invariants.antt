use Rattle.std.proofs.Common.{◌≡◌, drop}
use Rattle.fisca_api.specs.Situations.{all_given}
use Rattle.fisca_situations.specs.AllAxes.{put_all_in}
use Rattle.fisca_api.proofs.given.with_values.Given as goal

abbrev pub invariant-loop-value : goal.invariant-loop-value
invariant-loop-value l = put_all_in l.given (all_given l.tables l.values) ≡ put_all_in l.all.items (all_given l.tables (drop l.value-index l.values))
