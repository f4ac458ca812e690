use Rattle.std.proofs.Common.{◌≡◌, ◌∙◌, ◌-◌, ◌==◌, ◌+◌, ◌≤◌, ◌++◌, ◌∷◌, [], drop, suc, Option, option_map, ap, refl, sym, arith}
use Rattle.std.proofs.lemmas.List.{drop_all, drop_more}
use Rattle.std.proofs.lemmas.Result.{on_ok_weaker}
use Rattle.fisca_explanation.specs.Explanations.{above, beyond, worked}
use Rattle.fisca_model.specs.Seen.{key_seen, value_seen}
use Rattle.fisca_simulation.specs.Simulations.{sources}
use Rattle.fisca_simulation.specs.Views.{simulation}
use Rattle.fisca_explain.specs.Columns.{levels_of}
use Rattle.fisca_explain.specs.Needs.{needs}
use Rattle.fisca_explain.specs.Walks.{answers_in, form_in, names_in, notes_told_in, simulation_in, told_in}
use Rattle.fisca_explain.proofs.Bridging.{answers_same, formula_known, needs_same, origin_same, walk_same}
use Rattle.fisca_explain.proofs.Explaining.{above_done, alone_done, beyond_not_above, cut_done, worked_done, worked_not_above}
use Rattle.fisca_explain.proofs.Plain.{plain_origin}
use Rattle.fisca_explain.proofs.Turning.{asked_next, read_next, up_to_end, up_to_start}
use Rattle.fisca_explain.proofs.walk.Walk.+explain.Goals.{explain_notes-in-Asked+in_ok-explain-in-Asked, explain_notes-in-Read+in_ok-write_reading-in-Read}
use Rattle.fisca_explain.proofs.walk.Walk.+explain.Goals as goal

pub explain-returns-in_default-clause-lines : goal.explain-returns-in_default-clause-lines
explain-returns-in_default-clause-lines g t c =
    let w = c.args.self.now in
    let find = g.R.Recall.find in
    let m = simulation_in w in
    let W = answers_in (find w.recall.now) w in
    let levels = levels_of w.view.now.depth in
    let depth = c.args.depth in
    let k = key_seen c.args.key.now in
    let b = c.below-below in
    let value : option_map value_seen c.answer-value.result ≡ W depth k =
    c.answer-value.ensures ∙ answers_same find (simulation b.result.simulation) m b.result.recall.now w.recall.now b.ensures.simulation b.ensures.recall b.result.left (100 - depth) k b.ensures.left in
    let plain = plain_origin m W (needs m W) (levels - depth) depth k c.origin_of-origin.result (origin_same (simulation b.result.simulation) m k c.origin_of-origin.result b.ensures.simulation c.origin_of-origin.ensures) c.in_default.not-Formula in
    on_ok_weaker c.write_key.result
    (λ line before just.
    alone_done (names_in w) (form_in w) (sources m) W (needs m W) levels depth before k (option_map value_seen c.answer-value.result) value plain.reason (plain.told before)
    (g.S.RowSink.taken c.args.sink.now) (g.S.RowSink.taken c.write_key.new.sink) c.args.followed.now (line plain.reason (λ is. absurd (plain.elsewhere is))) just) c.write_key.ensures.line

pub explain-returns-then-has-clause-lines : goal.explain-returns-then-has-clause-lines
explain-returns-then-has-clause-lines g t c =
    let w = c.args.self.now in
    let find = g.R.Recall.find in
    let m = simulation_in w in
    let W = answers_in (find w.recall.now) w in
    let levels = levels_of w.view.now.depth in
    let depth = c.args.depth in
    let k = key_seen c.args.key.now in
    let b = c.below-below in
    let value : option_map value_seen c.answer-value.result ≡ W depth k =
    c.answer-value.ensures ∙ answers_same find (simulation b.result.simulation) m b.result.recall.now w.recall.now b.ensures.simulation b.ensures.recall b.result.left (100 - depth) k b.ensures.left in
    let at = formula_known (simulation b.result.simulation) m k c.origin_of-origin.result c.in-Formula.variable c.in-Formula.formula b.ensures.simulation c.origin_of-origin.ensures c.in-Formula.is in
    on_ok_weaker c.write_key-then-has.result
    (λ line before just.
    above_done (names_in w) (form_in w) (sources m) W (needs m W) levels depth before k (option_map value_seen c.answer-value.result) value _ at.2 (sym (c.has.ensures before just) ∙ c.if-has.true)
    (g.S.RowSink.taken c.args.sink.now) (g.S.RowSink.taken c.write_key-then-has.new.sink) c.args.followed.now (line above (λ _. refl)) just) c.write_key-then-has.ensures.line

pub explain-returns-then-is_cut-clause-lines : goal.explain-returns-then-is_cut-clause-lines
explain-returns-then-is_cut-clause-lines g t c before just =
    let w = c.args.self.now in
    let find = g.R.Recall.find in
    let m = simulation_in w in
    let W = answers_in (find w.recall.now) w in
    let levels = levels_of w.view.now.depth in
    let depth = c.args.depth in
    let k = key_seen c.args.key.now in
    let b = c.below-below in
    let value : option_map value_seen c.answer-value.result ≡ W depth k =
    c.answer-value.ensures ∙ answers_same find (simulation b.result.simulation) m b.result.recall.now w.recall.now b.ensures.simulation b.ensures.recall b.result.left (100 - depth) k b.ensures.left in
    let at = formula_known (simulation b.result.simulation) m k c.origin_of-origin.result c.in-Formula.variable c.in-Formula.formula b.ensures.simulation c.origin_of-origin.ensures c.in-Formula.is in
    cut_done (names_in w) (form_in w) (sources m) W (needs m W) levels depth before k (option_map value_seen c.answer-value.result) value _ at.2 (sym (c.has.ensures before just) ∙ c.if-has.false)
    (sym c.is_cut.ensures ∙ c.if-is_cut.true) (g.S.RowSink.taken c.args.sink.now) (g.S.RowSink.taken c.write_key-2.new.sink) c.args.followed.now
    (c.in_ok-write_key.ensures.line beyond (λ is. absurd (beyond_not_above is))) just

pub explain-notes_in-requires : goal.explain-notes_in-requires
explain-notes_in-requires g t c =
    let w = c.args.self.now in
    let find = g.R.Recall.find in
    let k = key_seen c.args.key.now in
    let b = c.below-below in
    let u = c.below-under in
    let at = formula_known (simulation b.result.simulation) (simulation u.result.simulation) k c.origin_of-origin.result c.in-Formula.variable c.in-Formula.formula (b.ensures.simulation ∙ sym u.ensures.simulation) c.origin_of-origin.ensures c.in-Formula.is in
    record {
      walk = walk_same find (simulation u.result.simulation) (simulation_in w) u.result.recall.now w.recall.now u.ensures.simulation u.ensures.recall c.requires.walk;
      variable = at.0;
      formula = at.1;
    }

pub explain-returns-clause-lines : goal.explain-returns-clause-lines
explain-returns-clause-lines g t c =
    let w = c.args.self.now in
    let find = g.R.Recall.find in
    let m = simulation_in w in
    let W = answers_in (find w.recall.now) w in
    let levels = levels_of w.view.now.depth in
    let depth = c.args.depth in
    let k = key_seen c.args.key.now in
    let b = c.below-below in
    let u = c.below-under in
    let value : option_map value_seen c.answer-value.result ≡ W depth k =
    c.answer-value.ensures ∙ answers_same find (simulation b.result.simulation) m b.result.recall.now w.recall.now b.ensures.simulation b.ensures.recall b.result.left (100 - depth) k b.ensures.left in
    let at = formula_known (simulation b.result.simulation) m k c.origin_of-origin.result c.in-Formula.variable c.in-Formula.formula b.ensures.simulation c.origin_of-origin.ensures c.in-Formula.is in
    let deeper : depth + 1 ≡ suc depth = omega arith in
    let needed : c.as_slice.result.now ≡ needs m W depth k =
    c.as_slice.ensures ∙ c.in_ok-notes.ensures.notes
    ∙ needs_same find (simulation u.result.simulation) m u.result.recall.now w.recall.now u.ensures.simulation u.ensures.recall u.result.left depth c.in-Formula.variable.now k c.in-Formula.formula.now (u.ensures.left ∙ ap (λ d. 100 - d) deeper) at.0 at.1 in
    on_ok_weaker c.explain_notes.result
    (λ told before just.
    worked_done (names_in w) (form_in w) (sources m) W (needs m W) levels depth before k (option_map value_seen c.answer-value.result) value _ at.2 (sym (c.has.ensures before just) ∙ c.if-has.false)
    (sym c.is_cut.ensures ∙ c.if-is_cut.false) (depth + 1) deeper c.as_slice.result.now needed (g.S.RowSink.taken c.args.sink.now) (g.S.RowSink.taken c.write_key-2.new.sink) (g.S.RowSink.taken c.explain_notes.new.sink)
    c.explain_notes.new.followed (c.in_ok-write_key.ensures.line worked (λ is. absurd (worked_not_above is))) (told (before ++ k ∷ []) (c.in_ok-add.ensures before just))) c.explain_notes.ensures.lines

pub explain_notes-notes-init : goal.explain_notes-notes-init
explain_notes-notes-init g t c =
    let w = c.args.self.now in
    (refl, λ before just. up_to_start (names_in w) (form_in w) (told_in (g.R.Recall.find w.recall.now) w c.args.depth) c.args.depth before c.args.notes.now (g.S.RowSink.taken c.args.sink.now) c.args.followed.now just)

pub explain_notes-notes-preserved : goal.explain_notes-notes-preserved
explain_notes-notes-preserved g t c =
    let w = c.args.self.now in
    let notes = c.args.notes.now in
    let i = c.notes.note-index in
    let find = g.R.Recall.find in
    let taken = g.S.RowSink.taken in
    let left : drop i notes ≡ c.note-item.result ∷ drop (i + 1) notes = drop_more notes i c.note-item.result c.notes-test.true ∙ ap (λ n. n ∷ drop (i + 1) notes) (sym c.note-item.is) in
    elim c.match-note.branch [
      | explain_notes-in-Asked+in_ok-explain-in-Asked b ↦ (
        ap g.S.RowSink.failures b.sink-is ∙ b.in_ok-explain-in-Asked.ensures.failures ∙ c.notes.invariant.0,
        λ before just. rw (b.sink-is, b.followed-is)
            (asked_next (names_in w) (form_in w) (told_in (find w.recall.now) w c.args.depth) c.args.depth (notes_told_in (find w.recall.now) w c.args.depth before notes) (drop i notes) (drop (i + 1) notes)
            (taken c.args.sink.now) (taken c.notes.sink) (taken b.explain.new.sink) c.notes.followed b.explain.new.followed (c.notes.invariant.1 before just) b.in-Asked.key
            (left ∙ ap (λ n. n ∷ drop (i + 1) notes) b.in-Asked.is) b.in_ok-explain-in-Asked.ensures.lines),
      )
      | explain_notes-in-Read+in_ok-write_reading-in-Read b ↦ (
        ap g.S.RowSink.failures b.sink-is ∙ b.in_ok-write_reading-in-Read.ensures.failures ∙ c.notes.invariant.0,
        λ before just. rw (b.sink-is, b.followed-is)
            (read_next (names_in w) (form_in w) (told_in (find w.recall.now) w c.args.depth) c.args.depth (notes_told_in (find w.recall.now) w c.args.depth before notes) (drop i notes) (drop (i + 1) notes)
            (taken c.args.sink.now) (taken c.notes.sink) (taken b.write_reading.new.sink) c.notes.followed c.notes.followed (c.notes.invariant.1 before just) b.in-Read.reading
            (left ∙ ap (λ n. n ∷ drop (i + 1) notes) b.in-Read.is) b.in_ok-write_reading-in-Read.ensures.line refl),
      )
    ]

pub explain_notes-returns-clause-lines : goal.explain_notes-returns-clause-lines
explain_notes-returns-clause-lines g t c = λ before just.
    let w = c.args.self.now in
    let find = g.R.Recall.find in
    let notes = c.args.notes.now in
    up_to_end (names_in w) (form_in w) (told_in (find w.recall.now) w c.args.depth) c.args.depth (notes_told_in (find w.recall.now) w c.args.depth before notes) (drop c.notes.note-index notes)
    (g.S.RowSink.taken c.args.sink.now) (g.S.RowSink.taken c.notes.sink) c.notes.followed (c.notes.invariant.1 before just) (drop_all c.notes.note-index notes c.notes-test.false)
