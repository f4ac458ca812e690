use Rattle.std.proofs.Common.{◌≡◌, map, drop}
use Rattle.fisca_ast.specs.ModuleViews.{item}
use Rattle.fisca_attributes.specs.Steps.AttributeForms.{value_at}
use Rattle.fisca_attributes.proofs.attributes.value_at.Given as goal

abbrev pub invariant-loop-one : goal.invariant-loop-one
invariant-loop-one l = value_at l.name (map item (drop l.one-index l.items)) ≡ value_at l.name (map item l.items)
