use Rattle.std.proofs.Common.{◌≡◌, drop}
use Rattle.std.specs.List.{position_from}
use Rattle.fisca_symbols.specs.KnownEntities.{entities}
use Rattle.fisca_model.specs.Tables.{place_in, is_person}
use Rattle.fisca_symbols.proofs.entity.first_person.Given as goal

abbrev pub invariant-loop-place : goal.invariant-loop-place
invariant-loop-place l = position_from is_person l.place (entities (drop l.place l.items)) ≡ place_in is_person (entities l.items)
