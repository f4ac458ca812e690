use Rattle.std.proofs.Common.{◌≡◌, ◌∙◌, false, ap, rules}
use Rattle.fisca_model.specs.Seen.{key_seen}
use Rattle.fisca_simulation.specs.Played.{played}
use Rattle.fisca_simulation.specs.Simulations.{sources}
use Rattle.fisca_simulation.specs.Views.{simulation}
use Rattle.fisca_situations.specs.Steps.Views.{situation}
use Rattle.fisca_explain.specs.Below.{answers_by}
use Rattle.fisca_explain.specs.Ends.{is_wanting}
use Rattle.fisca_explain.proofs.Followed.{lent_moves, lent_work, notes_played, told_moves}
use Rattle.fisca_explain.proofs.walk.notes_in.Goals as goal

pub follow-end-requires : goal.follow-end-requires
follow-end-requires g c =
    let b = c.args.below.now in
    let find = g.R.Recall.find in
    let s = situation b.simulation.situation.now in
    let k = key_seen c.args.key.now in
    record {
      moving = lent_moves b.simulation.rules.now s b.simulation.neutral.now c.args.variable.now k c.args.formula.now c.as_slice-locals.result.now c.as_slice-locals.ensures.value
          (answers_by (sources (simulation b.simulation)) (find b.recall.now) b.left)
          (told_moves b.simulation.rules.now s b.simulation.neutral.now c.args.variable.now k c.args.formula.now c.requires.walk.ready (find b.recall.now) c.requires.walk.truth b.left c.requires.variable c.requires.formula);
    }

pub returns-clause-notes : goal.returns-clause-notes
returns-clause-notes g c =
    let b = c.args.below.now in
    let told : is_wanting c.follow-end.result ≡ false = search rules in
    notes_played c.follow-end.result _ c.follow-end.new.notes _ told c.follow-end.ensures c.new-notes.ensures
    ∙ ap (λ d. (played (answers_by (sources (simulation b.simulation)) (g.R.Recall.find b.recall.now) b.left) d).notes)
    (lent_work b.simulation.rules.now (situation b.simulation.situation.now) b.simulation.neutral.now c.args.variable.now (key_seen c.args.key.now) c.args.formula.now c.as_slice-locals.result.now c.as_slice-locals.ensures.value)
