use Rattle.std.proofs.Common.{◌≡◌, ◌∙◌, ◌+◌, ◌∷◌, Err, ap, drop, refl, subst, sym}
use Rattle.std.proofs.lemmas.List.{drop_more}
use Rattle.std.proofs.lemmas.Result.{err_from_is_err_and}
use Rattle.fisca_evaluator.specs.Evaluators.{simulation_of}
use Rattle.fisca_model.specs.Seen.{key_seen}
use Rattle.fisca_model.specs.declared.eval_fault.EvalFault.TheVariants.{Memory}
use Rattle.fisca_explain.specs.Walks.{explaining}
use Rattle.fisca_explain.proofs.AfterValue.{IsFault, told_after, value_after}
use Rattle.fisca_explain.proofs.ColumnTurns.{none_yet, not_explained, one_explained}
use Rattle.fisca_explain.proofs.explain.explain_all.Goals as goal

pub columns-init : goal.columns-init
columns-init g c =
    (refl, c.requires.ready, refl, none_yet (explaining c.args.view.now (simulation_of c.args.evaluator.now)) c.args.columns.now (g.S.RowSink.taken c.args.sink.now) c.new-followed.result c.new-followed.ensures)

pub columns-preserved : goal.columns-preserved
columns-preserved g c =
    let v = c.args.view.now in
    let m = simulation_of c.args.evaluator.now in
    let n = simulation_of c.columns.evaluator in
    let columns = c.args.columns.now in
    let i = c.columns.key-index in
    let k = c.key-item.result in
    let taken = g.S.RowSink.taken in
    let told = c.in_ok-explain_column.ensures in
    let same = c.columns.invariant.2 in
    let left : drop i columns ≡ k ∷ drop (i + 1) columns = drop_more columns i k c.columns-test.true ∙ ap (λ j. j ∷ drop (i + 1) columns) (sym c.key-item.is) in (
      told.failures ∙ c.columns.invariant.0,
      told.ready,
      told.same ∙ same,
      one_explained (explaining v m) columns (drop i columns) (drop (i + 1) columns) k (taken c.args.sink.now) (taken c.columns.sink) (taken c.explain_column.new.sink) c.columns.followed c.columns.invariant.3 left
          c.explain_column.new.followed (value_after n m same v (key_seen k) told.value)
          (λ before just. told_after n m same v Memory before (key_seen k) (taken c.columns.sink) (taken c.explain_column.new.sink) c.explain_column.new.followed (told.lines before just)),
    )

pub returns-in_err-explain_column-clause-lines : goal.returns-in_err-explain_column-clause-lines
returns-in_err-explain_column-clause-lines g c =
    let v = c.args.view.now in
    let m = simulation_of c.args.evaluator.now in
    let columns = c.args.columns.now in
    let i = c.columns.key-index in
    let k = c.key-item.result in
    let taken = g.S.RowSink.taken in
    let p = err_from_is_err_and c.from_residual.result c.from_residual.ensures.1 in
    let left : drop i columns ≡ k ∷ drop (i + 1) columns = drop_more columns i k c.columns-test.true ∙ ap (λ j. j ∷ drop (i + 1) columns) (sym c.key-item.is) in
    rw (p.1, p.2)
    (not_explained (explaining v m) columns (drop i columns) (drop (i + 1) columns) k (taken c.args.sink.now) (taken c.columns.sink) (taken c.explain_column.new.sink) c.columns.followed c.columns.invariant.3 left
    c.in_err-explain_column.field-0.0
    (λ fault is. subst (λ y. IsFault v y k (key_seen k) (taken c.columns.sink) (taken c.explain_column.new.sink) c.columns.followed fault) c.columns.invariant.2 (c.in_err-explain_column.ensures.fault fault (ap Err is))))
