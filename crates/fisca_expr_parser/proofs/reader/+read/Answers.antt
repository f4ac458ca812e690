use Rattle.std.proofs.Common.{◌≡◌, ◌+◌, ◌-◌, List, true, false, refl, sym, ap, ap₂, ◌∙◌, arith, Ok, Err}
use Rattle.std.specs.Prelude.{◌&&◌}
use Rattle.std.proofs.lemmas.Result.{err_from_is_err_and}
use Rattle.fisca_expr_parser.specs.declared.sign.Sign.{Sign}
use Rattle.fisca_lexer.specs.declared.token.Mark.TheVariants as mark
use Rattle.fisca_expr_parser.specs.Steps.Marks.{tightness}
use Rattle.fisca_ast.specs.Tree.{Tree, Series, Argument, next, height, height_of}
use Rattle.fisca_expr_parser.specs.Steps.Spelling.{place_behind, takes_many}
use Rattle.fisca_expr_parser.specs.Reading.{Outcome, and_then, pure, tail, joint_ahead, reads, climb, joined, series}
use Rattle.fisca_expr_parser.specs.Steps.Reading.{begins}
use Rattle.fisca_ast.specs.Views.{tree, argument_view, before}
use Rattle.fisca_expr_parser.proofs.Climbs.{reads_within, climb_stop, climb_deep, climb_more, series_end, series_fail, series_last, series_next, before_next}
use Rattle.fisca_expr_parser.proofs.Pushed.{more_height}
use Rattle.fisca_expr_parser.proofs.reader.+read.Goals as goal

pub read-returns-then-depth-eq0-clause-value : goal.read-returns-then-depth-eq0-clause-value
unfolding reads
read-returns-then-depth-eq0-clause-value t c k = let none : c.args.depth ≡ 0 = omega arith in ap (λ n. reads c.args.mode n c.args.least c.args.cursor.now) none ∙ ap Err (sym c.refuse.ensures)

pub read-returns-clause-value : goal.read-returns-clause-value
read-returns-clause-value t c = rw (reads_within c.args.mode c.args.depth c.args.least c.args.cursor.now (omega arith)) c.read_within.ensures.value

pub read_onward-loop-alloc-init : goal.read_onward-loop-alloc-init
read_onward-loop-alloc-init t c = (c.args.limit, omega arith, c.requires.low, refl)

pub read_onward-returns-then-tightness-least-clause-value : goal.read_onward-returns-then-tightness-least-clause-value
read_onward-returns-then-tightness-least-clause-value t c =
    let l = c.loop-alloc in
    let is : tightness (joint_ahead l.cursor) ≡ c.tightness.result = ap tightness (sym c.joint-joint.ensures) ∙ sym c.tightness.ensures in
    l.invariant.3 ∙ climb_stop (reads c.args.mode (c.args.limit - 1)) c.args.limit c.args.least (tree l.left.expr) l.cursor l.invariant.0 (omega arith)

pub read_onward-returns-then-left-limit-clause-value : goal.read_onward-returns-then-left-limit-clause-value
read_onward-returns-then-left-limit-clause-value t c k =
    let l = c.loop-alloc in
    let is : tightness (joint_ahead l.cursor) ≡ c.tightness.result = ap tightness (sym c.joint-joint.ensures) ∙ sym c.tightness.ensures in
    let high : l.left.height ≡ height (tree l.left.expr) = l.left.right in
    l.invariant.3 ∙ climb_deep (reads c.args.mode (c.args.limit - 1)) c.args.limit c.args.least (tree l.left.expr) l.cursor l.invariant.0 (omega arith) (omega arith) ∙ ap Err (sym c.refuse.ensures)

pub read_onward-returns-in_err-left-clause-value : goal.read_onward-returns-in_err-left-clause-value
read_onward-returns-in_err-left-clause-value t c =
    let l = c.loop-alloc in
    let inner = reads c.args.mode (c.args.limit - 1) in
    let at : c.joint-joint.result ≡ joint_ahead l.cursor = c.joint-joint.ensures in
    let is : tightness (joint_ahead l.cursor) ≡ c.tightness.result = ap tightness (sym at) ∙ sym c.tightness.ensures in
    let high : l.left.height ≡ height (tree l.left.expr) = l.left.right in
    let past : c.advance.new.self ≡ tail l.cursor = c.advance.ensures in
    let p = err_from_is_err_and c.from_residual.result c.from_residual.ensures.1 in
    rw (p.1, p.2) (λ k. l.invariant.3 ∙ climb_more inner c.args.limit c.args.least (tree l.left.expr) l.cursor l.invariant.0 (omega arith) (omega arith) (omega (arith, l.invariant.1))
    ∙ ap (λ (o : Outcome Tree). and_then o (climb inner c.args.limit c.args.least (l.invariant.0 - 1))) (ap (λ j. joined inner j (tree l.left.expr) (tail l.cursor)) (sym at) ∙ ap (joined inner c.joint-joint.result (tree l.left.expr)) (sym past) ∙ c.in_err-left.ensures.value k))

pub read_onward-loop-alloc-preserved : goal.read_onward-loop-alloc-preserved
read_onward-loop-alloc-preserved t c =
    let l = c.loop-alloc in
    let inner = reads c.args.mode (c.args.limit - 1) in
    let at : c.joint-joint.result ≡ joint_ahead l.cursor = c.joint-joint.ensures in
    let is : tightness (joint_ahead l.cursor) ≡ c.tightness.result = ap tightness (sym at) ∙ sym c.tightness.ensures in
    let high : l.left.height ≡ height (tree l.left.expr) = l.left.right in
    let past : c.advance.new.self ≡ tail l.cursor = c.advance.ensures in (
      l.invariant.0 - 1,
      omega (arith, l.invariant.1, c.in_ok-left.ensures.grows),
      c.in_ok-left.ensures.low,
      l.invariant.3 ∙ climb_more inner c.args.limit c.args.least (tree l.left.expr) l.cursor l.invariant.0 (omega arith) (omega arith) (omega (arith, l.invariant.1))
          ∙ ap (λ (o : Outcome Tree). and_then o (climb inner c.args.limit c.args.least (l.invariant.0 - 1))) (ap (λ j. joined inner j (tree l.left.expr) (tail l.cursor)) (sym at) ∙ ap (joined inner c.joint-joint.result (tree l.left.expr)) (sym past) ∙ c.in_ok-left.ensures.value),
    )

pub read_series-returns-then-takes_many-clause-value : goal.read_series-returns-then-takes_many-clause-value
read_series-returns-then-takes_many-clause-value t c =
    let l = c.loop-turn in
    let closes : (begins c.args.end l.cursor && takes_many l.place) ≡ true = grind arith in
    l.invariant.0 ∙ ap (λ (o : Outcome Series). and_then o (λ xs. pure (before l.items.items xs))) (series_end (reads c.args.mode c.args.depth) l.place c.args.end l.cursor (c.left-turn-end.result - l._turn) (omega arith) closes)
    ∙ ap (λ s. Ok (s, l.cursor)) (sym c.all_with_commas.ensures.value)

pub read_series-returns-in_err-argument-clause-value : goal.read_series-returns-in_err-argument-clause-value
read_series-returns-in_err-argument-clause-value t c =
    let l = c.loop-turn in
    let opens : (begins c.args.end l.cursor && takes_many l.place) ≡ false = grind arith in
    let p = err_from_is_err_and c.from_residual.result c.from_residual.ensures.1 in
    rw (p.1, p.2) (λ k. l.invariant.0 ∙ ap (λ (o : Outcome Series). and_then o (λ xs. pure (before l.items.items xs))) (series_fail (reads c.args.mode c.args.depth) l.place c.args.end l.cursor (c.left-turn-end.result - l._turn) (omega arith) _ opens (c.in_err-argument.ensures.value k)))

pub read_series-returns-then-not-takes_many-clause-value : goal.read_series-returns-then-not-takes_many-clause-value
read_series-returns-then-not-takes_many-clause-value t c =
    let l = c.loop-turn in
    let opens : (begins c.args.end l.cursor && takes_many l.place) ≡ false = grind arith in
    let rest : List Sign = c.read_argument.new.cursor in
    let ends : (begins mark.Comma rest && takes_many l.place) ≡ false = grind arith in
    l.invariant.0 ∙ ap (λ (o : Outcome Series). and_then o (λ xs. pure (before l.items.items xs)))
    (series_last (reads c.args.mode c.args.depth) l.place c.args.end l.cursor (c.left-turn-end.result - l._turn) (omega arith) (argument_view c.in_ok-argument.argument.argument) rest opens c.in_ok-argument.ensures.value ends)
    ∙ ap (λ s. Ok (s, rest)) (sym c.in_ok-all_with_last.ensures.value)

pub read_series-loop-turn-preserved : goal.read_series-loop-turn-preserved
read_series-loop-turn-preserved t c =
    let l = c.loop-turn in
    let opens : (begins c.args.end l.cursor && takes_many l.place) ≡ false = grind arith in
    let rest : List Sign = c.read_argument.new.cursor in
    let comma : (begins mark.Comma rest && takes_many l.place) ≡ true = grind arith in
    let inner = reads c.args.mode c.args.depth in
    let a : Argument = argument_view c.in_ok-argument.argument.argument in
    let n = c.left-turn-end.result - l._turn in
    let fewer : n - 1 ≡ c.left-turn-end.result - (l._turn + 1) = omega arith in
    let put : (more : Series) → before c.push.new.items.items more ≡ before l.items.items (next a more) = c.in_ok-push.ensures in
    let tall : c.in_ok-argument.argument.height ≡ height_of a = c.in_ok-argument.argument.right in (
      l.invariant.0
          ∙ ap (λ (o : Outcome Series). and_then o (λ xs. pure (before l.items.items xs))) (series_next inner l.place c.args.end l.cursor n (omega arith) a rest opens c.in_ok-argument.ensures.value comma)
          ∙ before_next (series inner (place_behind l.place a) c.args.end (n - 1) (tail rest)) l.items.items c.push.new.items.items a put
          ∙ ap₂ (λ p m. and_then (series inner p c.args.end m (tail rest)) (λ xs. pure (before c.push.new.items.items xs))) (sym c.place_behind-place.ensures) fewer
          ∙ ap (λ ts. and_then (series inner c.place_behind-place.result c.args.end (c.left-turn-end.result - (l._turn + 1)) ts) (λ xs. pure (before c.push.new.items.items xs))) (sym c.advance.ensures),
      c.max-height.ensures ∙ more_height l.items.items c.push.new.items.items c.in_ok-argument.argument.argument l.height c.in_ok-argument.argument.height put l.invariant.1 tall,
      omega (arith, l.invariant.2, c.in_ok-argument.ensures.low, c.max-height.ensures),
    )

pub read_series-returns-clause-value : goal.read_series-returns-clause-value
unfolding series
read_series-returns-clause-value t c k =
    let l = c.loop-turn in
    let none : c.left-turn-end.result - l._turn ≡ 0 = omega arith in
    l.invariant.0 ∙ ap (λ n. and_then (series (reads c.args.mode c.args.depth) l.place c.args.end n l.cursor) (λ xs. pure (before l.items.items xs))) none ∙ ap Err (sym c.refuse.ensures)
