use Rattle.std.proofs.Common.{◌≡◌, drop, map}
use Rattle.fisca_members.specs.Views.{section}
use Rattle.fisca_situations.specs.Steps.Views.{situation}
use Rattle.fisca_expected.specs.Steps.Reading.{sections_read}
use Rattle.fisca_expected.proofs.members.sections_read.Given as goal

abbrev pub invariant-loop-section : goal.invariant-loop-section
invariant-loop-section l =
    let members = (situation l.situation).members in
    sections_read l.tables members l.default l.fn.outputs (map section l.sections)
    ≡ sections_read l.tables members l.default l.found (map section (drop l.section-index l.sections))
