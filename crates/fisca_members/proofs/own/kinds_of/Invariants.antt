use Rattle.std.proofs.Common.{◌≡◌, [], length, map}
use Rattle.std.specs.Vec.Iter.{into_iter_items, into_iter_len}
use Rattle.fisca_symbols.specs.KnownEntities.{entities}
use Rattle.fisca_members.specs.Owned.{kind_in}
use Rattle.fisca_members.specs.Steps.Drafts.{drafted, kinds_from}
use Rattle.fisca_members.proofs.own.kinds_of.Given as goal

abbrev pub invariant-loop-given : goal.invariant-loop-given
invariant-loop-given l =
    (kinds_from l.persons (entities l.entities) 0 [] (drafted l.persons l.fn.draft)
    ≡ kinds_from l.persons (entities l.entities) (length l.kinds.items) (map (kind_in l.owners.told) l.kinds.items) (drafted l.persons (into_iter_items l.given-iterator)))
    × (into_iter_len l.given-iterator ≡ length (into_iter_items l.given-iterator))
