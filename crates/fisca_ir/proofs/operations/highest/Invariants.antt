use Rattle.std.proofs.Common.{◌≡◌, drop}
use Rattle.std.specs.Prelude.{map}
use Rattle.fisca_typing.specs.Operations.{highest}
use Rattle.fisca_ir.specs.Views.{typed}
use Rattle.fisca_ir.proofs.operations.highest.Given as goal

abbrev pub invariant-loop-value : goal.invariant-loop-value
invariant-loop-value l = highest l.fn.first (map typed l.values) ≡ highest l.found (map typed (drop l.value-index l.values))
