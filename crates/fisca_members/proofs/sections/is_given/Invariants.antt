use Rattle.std.proofs.Common.{◌≡◌, drop, map}
use Rattle.fisca_members.specs.Steps.Sections.{is_given}
use Rattle.fisca_members.specs.Views.{section}
use Rattle.fisca_members.proofs.sections.is_given.Given as goal

abbrev pub invariant-loop-section : goal.invariant-loop-section
invariant-loop-section l = is_given (map section l.sections) l.entity ≡ is_given (map section (drop l.section-index l.sections)) l.entity
