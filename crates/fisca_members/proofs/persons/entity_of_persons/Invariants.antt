use Rattle.std.proofs.Common.{◌≡◌, drop}
use Rattle.std.specs.List.{find}
use Rattle.fisca_symbols.specs.KnownEntities.{entities}
use Rattle.fisca_model.specs.Tables.{is_person}
use Rattle.fisca_members.proofs.persons.entity_of_persons.Given as goal

abbrev pub invariant-loop-entity : goal.invariant-loop-entity
invariant-loop-entity l = find is_person (entities l.entities) ≡ find is_person (entities (drop l.entity-index l.entities))
