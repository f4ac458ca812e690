use Rattle.std.proofs.Common.{◌≡◌, ◌++◌, drop, map}
use Rattle.fisca_symbols.specs.KnownEntities.{entities}
use Rattle.fisca_symbols.proofs.entity.plurals_of.Given as goal

abbrev pub invariant-loop-item : goal.invariant-loop-item
invariant-loop-item l = l.names ++ map (λ e. e.plural) (entities (drop l.item-index l.items)) ≡ map (λ e. e.plural) (entities l.items)
