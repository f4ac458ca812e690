use Rattle.std.proofs.Common.{◌≡◌, ◌++◌, List, length, drop}
use Rattle.fisca_typing.specs.Questions.{ask_all}
use Rattle.fisca_model.specs.Seen.{value_seen}
use Rattle.fisca_model.specs.Values.{number}
use Rattle.fisca_num.specs.Number.{Number, zero_number}
use Rattle.fisca_time.specs.Period.{subs}
use Rattle.fisca_simulation.specs.Noted.{unread}
use Rattle.fisca_simulation.specs.declared.note.Note.{Note}
use Rattle.fisca_simulation.proofs.Playing.{Leads}
use Rattle.fisca_simulation.proofs.follower.Follower.sum.Given as goal

-- what is left of the parts leads to the end of the whole
abbrev pub invariant-parts : goal.invariant-parts
invariant-parts g l =
    (done : List Note) × (s : Number) × (l.notes ≡ l.fn.notes ++ done) × (value_seen l.sum ≡ number s)
    × Leads (g.A.Answering.answers l.self.answers.now) (unread (ask_all l.variable l.member (subs l.period l.unit) zero_number)) done (unread (ask_all l.variable l.member (drop l.next (subs l.period l.unit)) s))

abbrev pub decreases-parts : goal.decreases-parts
decreases-parts g l = length (drop l.next (subs l.period l.unit))
