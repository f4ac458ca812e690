use Rattle.std.proofs.Common.{◌≡◌, drop, map}
use Rattle.fisca_members.specs.Views.{section}
use Rattle.fisca_situations.specs.Steps.Reading.{sections_given}
use Rattle.fisca_situations.proofs.sections.sections_given.Given as goal

abbrev pub invariant-loop-section : goal.invariant-loop-section
invariant-loop-section l =
    sections_given l.tables l.default l.fn.given (map section l.sections)
    ≡ sections_given l.tables l.default l.found (map section (drop l.section-index l.sections))
