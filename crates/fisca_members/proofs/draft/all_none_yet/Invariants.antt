use Rattle.std.proofs.Common.{◌≡◌, ◌++◌, drop, map}
use Rattle.fisca_symbols.specs.KnownEntities.{entities}
use Rattle.fisca_members.specs.Steps.Drafts.{drafted}
use Rattle.fisca_members.specs.Steps.Members.{none_yet}
use Rattle.fisca_members.proofs.draft.all_none_yet.Given as goal

abbrev pub invariant-loop-entity : goal.invariant-loop-entity
invariant-loop-entity l = drafted l.persons l.items.items ++ map (none_yet l.persons) (entities (drop l.entity-index l.entities)) ≡ map (none_yet l.persons) (entities l.entities)
