use Rattle.std.proofs.Common.{◌≡◌, ◌+◌, ◌||◌, ◌++◌, suc, drop, is_err, string_bytes, refl, subst, ◌∙◌, inl, inr, arith}
use Rattle.std.proofs.lemmas.Result.{err_from_is_err_and}
use Rattle.std.specs.List.{list_any}
use Rattle.fisca_forms.specs.LineForms.{cells_from}
use Rattle.fisca_situations.proofs.Asking.{AreLeft, left_more, some_left, some_none}
use Rattle.fisca_symbols.specs.Known.{tables as known}
use Rattle.fisca_rows.proofs.Places.{get_there}
use Rattle.fisca_rows.proofs.GoingCells.{lacks_more, left_at, told_more}
use Rattle.fisca_rows.specs.Going.{told_cells}
use Rattle.fisca_rows.proofs.going.write_told_cells.Goals as goal

pub returns-in_err-told-clause-some : goal.returns-in_err-told-clause-some
returns-in_err-told-clause-some g c =
    let ks = c.args.columns.now in
    let p = c.loop-place.place in
    let k = c.index-columns-place.result in
    let at = get_there ks p k c.loop-place-test.true c.index-columns-place.is in
    let here = subst (λ left. AreLeft g.A.Answers.worked ks left c.args.answers.now c.loop-place.answers) (left_at ks p k at) c.loop-place.invariant.asked in
    rw (err_from_is_err_and c.from_residual.result c.from_residual.ensures.1).1 (some_left g.A.Answers.worked g.A.Answers.refused _ _ _ ks _ here (inr (inl c.in_err-told.ensures.refused)))

pub returns-in_err-write_told_cell-clause-some : goal.returns-in_err-write_told_cell-clause-some
returns-in_err-write_told_cell-clause-some g c =
    let ks = c.args.columns.now in
    let p = c.loop-place.place in
    let k = c.index-columns-place.result in
    let at = get_there ks p k c.loop-place-test.true c.index-columns-place.is in
    let here = subst (λ left. AreLeft g.A.Answers.worked ks left c.args.answers.now c.loop-place.answers) (left_at ks p k at) c.loop-place.invariant.asked in
    rw (err_from_is_err_and c.from_residual-in_err-write_told_cell.result c.from_residual-in_err-write_told_cell.ensures.1).1 (some_left g.A.Answers.worked g.A.Answers.refused _ _ _ ks _ here
    (inr (inr (c.told_value.new.answers, c.in_ok-told.ensures.worked, some_none g.A.Answers.worked g.A.Answers.refused c.told_value.new.answers (drop (suc p) ks)))))

pub loop-place-preserved : goal.loop-place-preserved
loop-place-preserved g c =
    let i = c.loop-place.invariant in
    let ks = c.args.columns.now in
    let p = c.loop-place.place in
    let k = c.index-columns-place.result in
    let at = get_there ks p k c.loop-place-test.true c.index-columns-place.is in
    let form = c.args.form.now in
    let first = c.args.first in
    let t = known c.args.tables.now in
    let answer = g.A.Answers.answer c.args.answers.now in
    let now = g.A.Answers.answer c.loop-place.answers in
    let next : suc p ≡ p + 1 = omega arith in
    record {
      ready = c.in_ok-told.ensures.ready;
      same = c.in_ok-told.ensures.same_answers ∙ i.same;
      members = c.in_ok-told.ensures.same_members ∙ i.members;
      written = i.written ∙ subst
          (λ n. string_bytes c.loop-place.line ++ cells_from form.format form.names (first + p) (told_cells t form.decimals answer (drop p ks))
          ≡ string_bytes c.write_told_cell.new.line ++ cells_from form.format form.names (first + n) (told_cells t form.decimals answer (drop n ks)))
          next (told_more t form answer ks p first (first + p) k now c.in_ok-told.told _ _ at i.same c.in_ok-told.ensures.told refl c.in_ok-write_told_cell.ensures);
      lacks = i.lacks ∙ subst
          (λ n. (c.loop-place.lacks || list_any (λ k. is_err (answer k)) (drop p ks)) ≡ (c.told_value.new.lacks || list_any (λ k. is_err (answer k)) (drop n ks)))
          next (lacks_more t form answer ks p k now _ _ at i.same c.in_ok-told.ensures.lacks);
      asked = subst (λ n. AreLeft g.A.Answers.worked ks (drop n ks) c.args.answers.now c.told_value.new.answers) next
          (left_more g.A.Answers.worked _ _ _ ks (drop (suc p) ks) k
          (subst (λ left. AreLeft g.A.Answers.worked ks left c.args.answers.now c.loop-place.answers) (left_at ks p k at) i.asked) c.in_ok-told.ensures.worked);
    }
