use Rattle.std.proofs.Common.{◌≡◌, drop}
use Rattle.std.specs.Prelude.{map}
use Rattle.fisca_typing.specs.Calls.{all_bools}
use Rattle.fisca_ir.specs.Views.{typed}
use Rattle.fisca_check_calls.proofs.calls.all_bools.Given as goal

abbrev pub invariant-loop-value : goal.invariant-loop-value
invariant-loop-value l = all_bools (map typed l.values) ≡ all_bools (map typed (drop l.value-index l.values))
