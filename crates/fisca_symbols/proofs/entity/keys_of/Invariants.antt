use Rattle.std.proofs.Common.{◌≡◌, ◌++◌, drop, map}
use Rattle.fisca_symbols.specs.KnownEntities.{entities}
use Rattle.fisca_symbols.proofs.entity.keys_of.Given as goal

abbrev pub invariant-loop-item : goal.invariant-loop-item
invariant-loop-item l = l.names ++ map (λ e. e.key) (entities (drop l.item-index l.items)) ≡ map (λ e. e.key) (entities l.items)
