use Rattle.std.proofs.Common.{◌≡◌, ◌≢◌, ◌+◌, ◌-◌, ◌<◌, ◌≤◌, length, drop, sym, ap, ◌∙◌, arith, append-nil, length-drop, drop-drop}
use Rattle.std.specs.Prelude.{Ok, Err}
use Rattle.std.proofs.lemmas.Result.{err_from_is_err_and}
use Rattle.std.proofs.lemmas.Grind.{common_steps}
use Rattle.fisca_lexer.specs.Layout.{start, step}
use Rattle.fisca_lexer.specs.Tokens.{behind, after_piece, after_step, tokens_from}
use Rattle.fisca_lexer.specs.Steps.Pieces.{front}
use Rattle.fisca_lexer.proofs.Steps.{turn, no_turn, no_front}
use Rattle.fisca_lexer.proofs.lexer.read.Goals as goal

pub loop-at-init : goal.loop-at-init
loop-at-init c =
    let n = length c.args.bytes.now in (
      n,
      omega arith,
      omega arith,
      rw c.new-layout.ensures (omega arith),
      rw c.new-layout.ensures (omega arith),
      rw (c.new-layout.ensures, c.new-found.ensures.items) (no_front (tokens_from n 0 start c.args.bytes.now)),
    )

pub returns-in-Err : goal.returns-in-Err
returns-in-Err c memory =
    let l = c.loop-at in
    let bytes = c.args.bytes.now in
    let left : length (drop l.at bytes) ≡ length bytes - l.at = length-drop l.at bytes in
    let found : front (drop l.at bytes) ≡ Err c.in-Err.kind = grind (arith, common_steps) in
    l.invariant.5 ∙ ap (behind l.found.items) (turn l.invariant.0 l.at l.layout (drop l.at bytes) (omega (arith, l.invariant.1)) (omega arith)
    ∙ ap (after_piece (tokens_from (l.invariant.0 - 1)) l.at l.layout (drop l.at bytes)) found)

pub returns-in_err-take : goal.returns-in_err-take
returns-in_err-take c =
    let l = c.loop-at in
    let bytes = c.args.bytes.now in
    let piece = c.in-Ok.piece in
    let left : length (drop l.at bytes) ≡ length bytes - l.at = length-drop l.at bytes in
    let found : front (drop l.at bytes) ≡ Ok piece = grind (arith, common_steps) in
    let others = tokens_from (l.invariant.0 - 1) in
    let p = err_from_is_err_and c.from_residual.result c.from_residual.ensures.1 in
    rw (p.1, p.2) (λ memory. l.invariant.5 ∙ ap (behind l.found.items) (turn l.invariant.0 l.at l.layout (drop l.at bytes) (omega (arith, l.invariant.1)) (omega arith)
    ∙ ap (after_piece others l.at l.layout (drop l.at bytes)) found
    ∙ ap (after_step (λ m. others (l.at + piece.length) m (drop piece.length (drop l.at bytes)))) (c.in_err-take.ensures.value memory)))

pub loop-at-preserved : goal.loop-at-preserved
loop-at-preserved c =
    let l = c.loop-at in
    let bytes = c.args.bytes.now in
    let piece = c.in-Ok.piece in
    let left : length (drop l.at bytes) ≡ length bytes - l.at = length-drop l.at bytes in
    let found : front (drop l.at bytes) ≡ Ok piece = grind (arith, common_steps) in
    let some : 0 < piece.length = c.in-Ok.ensures.some in
    let lines : piece.lines ≤ piece.length = c.in-Ok.ensures.lines in
    let within : piece.length ≤ length (drop l.at bytes) = grind (arith, common_steps) in
    let others = tokens_from (l.invariant.0 - 1) in
    let left_over = drop piece.length (drop l.at bytes) in (
      l.invariant.0 - 1,
      omega (arith, l.invariant.1),
      omega (arith, l.invariant.2),
      omega (arith, l.invariant.3, c.in_ok-take.ensures.line),
      omega (arith, l.invariant.4, c.in_ok-take.ensures.depth),
      l.invariant.5 ∙ ap (behind l.found.items) (turn l.invariant.0 l.at l.layout (drop l.at bytes) (omega (arith, l.invariant.1)) (omega arith)
          ∙ ap (after_piece others l.at l.layout (drop l.at bytes)) found)
          ∙ sym (c.in_ok-take.ensures.value (λ m. others (l.at + piece.length) m left_over))
          ∙ ap (λ ts. behind c.take.new.found.items (others (l.at + piece.length) c.take.new.layout ts)) (drop-drop piece.length l.at bytes),
    )

pub returns : goal.returns
returns c =
    let l = c.loop-at in
    let bytes = c.args.bytes.now in
    let left : length (drop l.at bytes) ≡ length bytes - l.at = length-drop l.at bytes in
    l.invariant.5 ∙ ap (behind l.found.items) (no_turn l.invariant.0 l.at l.layout (drop l.at bytes) (omega arith)) ∙ ap Ok (append-nil l.found.items)
