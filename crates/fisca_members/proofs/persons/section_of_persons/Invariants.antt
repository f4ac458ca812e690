use Rattle.std.proofs.Common.{◌≡◌, drop, map}
use Rattle.std.specs.List.{find}
use Rattle.fisca_symbols.specs.KnownEntities.{entities}
use Rattle.fisca_members.specs.Steps.Persons.{is_person_at}
use Rattle.fisca_members.specs.Views.{section}
use Rattle.fisca_members.proofs.persons.section_of_persons.Given as goal

abbrev pub invariant-loop-section : goal.invariant-loop-section
invariant-loop-section l =
    find (λ s. is_person_at (entities l.entities) s.named.entity) (map section l.sections)
    ≡ find (λ s. is_person_at (entities l.entities) s.named.entity) (map section (drop l.section-index l.sections))
