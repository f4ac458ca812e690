use Rattle.std.proofs.Common.{◌≡◌, drop}
use Rattle.std.specs.Prelude.{map}
use Rattle.fisca_typing.specs.Operations.{common_all}
use Rattle.fisca_ir.specs.Views.{typed}
use Rattle.fisca_ir.proofs.operations.common_all.Given as goal

abbrev pub invariant-loop-value : goal.invariant-loop-value
invariant-loop-value l = common_all l.fn.first (map typed l.values) ≡ common_all l.found (map typed (drop l.value-index l.values))
