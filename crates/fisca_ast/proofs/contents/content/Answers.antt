use Rattle.std.proofs.Common.{◌≡◌, ◌∙◌, sym, ap, ◌++◌, ◌+◌, ◌-◌, suc, length, append_assoc, append-nil, arith, string_bytes, rules}
use Rattle.fisca_ast.specs.Steps.Contents.{said_within}
use Rattle.fisca_ast.proofs.ContentPieces.{said_more, said_nothing, said_end}
use Rattle.fisca_ast.proofs.InQuotes.{front_end, whole_end}
use Rattle.fisca_ast.proofs.contents.content.Goals as goal

pub returns-in-None : goal.returns-in-None
returns-in-None c =
    let l = c.loop-turn in
    let left = length c.args.source.now - l._turn in
    sym (l.invariant.0 ∙ ap (λ s. string_bytes l.said ++ s) (said_nothing left l.rest.now (sym c.in-None.ensures)) ∙ append-nil (string_bytes l.said))

pub loop-turn-preserved : goal.loop-turn-preserved
loop-turn-preserved c =
    let l = c.loop-turn in
    let left = length c.args.source.now - (l._turn + 1) in
    let more : length c.args.source.now - l._turn ≡ suc left = omega arith in (
      l.invariant.0
          ∙ ap (λ s. string_bytes l.said ++ s) (ap (λ n. said_within n l.rest.now) more ∙ said_more left l.rest.now (c.in-Some.next.now, c.in-Some.behind.now) (sym c.in-Some.ensures))
          ∙ sym (append_assoc (string_bytes l.said) c.in-Some.next.now (said_within left c.in-Some.behind.now))
          ∙ ap (λ s. s ++ said_within left c.in-Some.behind.now) (sym c.in_ok-push_str-in-Some.ensures.bytes),
      front_end l.rest.now (c.in-Some.next.now, c.in-Some.behind.now) l.invariant.1 (sym c.in-Some.ensures),
    )

pub returns : goal.returns
returns c =
    let l = c.loop-turn in
    let left = length c.args.source.now - l._turn in
    sym (l.invariant.0 ∙ ap (λ s. string_bytes l.said ++ s) (said_end left l.rest.now (omega arith)) ∙ append-nil (string_bytes l.said))

pub loop-turn-init : goal.loop-turn-init
loop-turn-init c = (search rules, whole_end c.as_bytes-rest.result.now c.as_bytes-rest.ensures.utf8)
