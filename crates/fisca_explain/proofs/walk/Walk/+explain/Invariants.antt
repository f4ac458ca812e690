use Rattle.std.proofs.Common.{◌≡◌, ◌+◌, ◌*◌, ◌-◌, List, drop}
use Rattle.fisca_model.specs.Values.{Key}
use Rattle.fisca_explain.specs.Followed.{HasJust}
use Rattle.fisca_explain.specs.Walks.{form_in, names_in, notes_told_in, told_in}
use Rattle.fisca_explain.proofs.Turning.{IsUpTo}
use Rattle.fisca_explain.proofs.walk.Walk.+explain.Given as goal

abbrev pub decreases-explain : goal.decreases-explain
decreases-explain g l = 2 * (101 - l.depth)

abbrev pub decreases-explain_notes : goal.decreases-explain_notes
decreases-explain_notes g l = 2 * (101 - l.depth) + 1

-- what is told of the notes so far stands in the sink, and what is left comes behind
abbrev pub invariant-explain_notes-notes : goal.invariant-explain_notes-notes
invariant-explain_notes-notes g l =
    (g.S.RowSink.failures l.sink ≡ g.S.RowSink.failures l.fn.sink)
    × ((before : List Key) → HasJust before l.fn.followed
    → IsUpTo (names_in l.self) (form_in l.self) (told_in (g.R.Recall.find l.self.recall.now) l.self l.depth) l.depth (notes_told_in (g.R.Recall.find l.self.recall.now) l.self l.depth before l.notes) (drop l.note-index l.notes)
    (g.S.RowSink.taken l.fn.sink) (g.S.RowSink.taken l.sink) l.followed)
