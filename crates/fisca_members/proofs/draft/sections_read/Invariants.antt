use Rattle.std.proofs.Common.{◌≡◌, drop, map}
use Rattle.fisca_symbols.specs.KnownEntities.{entities}
use Rattle.fisca_members.specs.Steps.Drafts.{drafted}
use Rattle.fisca_members.specs.Steps.Members.{sections_read}
use Rattle.fisca_members.specs.Views.{section}
use Rattle.fisca_members.proofs.draft.sections_read.Given as goal

abbrev pub invariant-loop-section : goal.invariant-loop-section
invariant-loop-section l =
    sections_read (entities l.entities) l.persons (drafted l.persons l.initial.members) (map section l.sections)
    ≡ sections_read (entities l.entities) l.persons (drafted l.persons l.members) (map section (drop l.section-index l.sections))
