use Rattle.std.proofs.Common.{◌≡◌, drop}
use Rattle.fisca_yaml.specs.Views.{entries_view}
use Rattle.fisca_situations.specs.Steps.Reading.{members_given}
use Rattle.fisca_situations.proofs.sections.members_given.Given as goal

abbrev pub invariant-loop-member : goal.invariant-loop-member
invariant-loop-member l =
    members_given l.tables l.default l.entity l.roles 0 l.fn.given (entries_view l.entries)
    ≡ members_given l.tables l.default l.entity l.roles l.member l.found (entries_view (drop l.member l.entries))
