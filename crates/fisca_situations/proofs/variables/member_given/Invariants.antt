use Rattle.std.proofs.Common.{◌≡◌, drop}
use Rattle.fisca_yaml.specs.Views.{entries_view}
use Rattle.fisca_situations.specs.Steps.Reading.{member_given}
use Rattle.fisca_situations.proofs.variables.member_given.Given as goal

abbrev pub invariant-loop-entry : goal.invariant-loop-entry
invariant-loop-entry l =
    member_given l.tables l.default l.entity l.member l.roles l.fn.given (entries_view l.entries)
    ≡ member_given l.tables l.default l.entity l.member l.roles l.found (entries_view (drop l.entry-index l.entries))
