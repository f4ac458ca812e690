use Rattle.std.proofs.Common.{◌≡◌, ◌+◌, ◌<◌, ◌∷◌, [], length, length-append, Err, arith, sym, ap, subst, ◌∙◌}
use Rattle.std.proofs.lemmas.Result.{IfErr-weaker, IfOk-weaker}
use Rattle.fisca_model.specs.Causes.{fault_at, too_deep}
use Rattle.fisca_key_semantics.specs.Stacks.{IsAskable}
use Rattle.fisca_machine.specs.Plans.{plays}
use Rattle.fisca_model.specs.EvalFaults.{told}
use Rattle.fisca_evaluator.proofs.Recalls.{full_below, full_done}
use Rattle.fisca_evaluator.proofs.Remembering.{pushed_working, pushed_passed, popped_known, popped_grows, popped_done, popped_fault}
use Rattle.fisca_evaluator.proofs.Risen.{counted_none}
use Rattle.fisca_evaluator.specs.Evaluations.{work}
use Rattle.fisca_evaluator.proofs.played.by_plan.Goals as goal

pub returns-then-len-ge-MOST_KEYS-clause-fault : goal.returns-then-len-ge-MOST_KEYS-clause-fault
returns-then-len-ge-MOST_KEYS-clause-fault g c =
    let long : length c.args.keys.now.items ≡ 100 = omega (arith, c.requires.depth) in
    let first = rw c.as_slice.ensures.value at c.first_of_chain.ensures in
    full_below c.args.evaluation.now c.args.keys.now.items c.args.key.now c.requires.stack c.requires.away (subst IsAskable (sym c.requires.work.source) tt) long
    ∙ ap (λ k. Err (fault_at too_deep k)) (sym first)

pub returns-then-len-ge-MOST_KEYS-clause-stopped : goal.returns-then-len-ge-MOST_KEYS-clause-stopped
returns-then-len-ge-MOST_KEYS-clause-stopped g c =
    let long : length c.args.keys.now.items ≡ 100 = omega (arith, c.requires.depth) in
    full_done c.args.evaluation.now c.args.keys.now.items c.args.key.now _ long

pub returns-then-len-ge-MOST_KEYS-clause-counted : goal.returns-then-len-ge-MOST_KEYS-clause-counted
returns-then-len-ge-MOST_KEYS-clause-counted g c = counted_none _ _

pub returns-in-Err-clause-counted : goal.returns-in-Err-clause-counted
returns-in-Err-clause-counted g c = counted_none _ _

pub play-played-requires : goal.play-played-requires
play-played-requires g c =
    let s = c.args.evaluation.now in
    let keys = c.args.keys.now.items in
    let room : length keys < 100 = omega arith in
    let pushed = c.in-Ok.ensures.items in
    let longer : length c.push.new.self.items ≡ length keys + 1 = rw pushed (length-append keys (c.args.key.now ∷ [])) in
    record {
      evaluation = c.requires.evaluation;
      work = c.requires.work;
      depth = omega arith;
      stack = rw pushed (pushed_working s keys c.args.key.now c.requires.stack c.requires.away room);
      memory = c.requires.memory;
      miss = c.requires.miss;
      passed = rw pushed (pushed_passed s keys c.args.key.now _ c.requires.passed);
    }

pub returns-in-Ok-clause-known : goal.returns-in-Ok-clause-known
returns-in-Ok-clause-known g c =
    let keys = c.args.keys.now.items in
    let room : length keys < 100 = omega arith in
    let h = rw c.in-Ok.ensures.items at c.play-played.ensures.known in
    IfOk-weaker c.play-played.result _ _ (λ k is. popped_known c.args.evaluation.now keys c.args.key.now room k is) h

pub returns-in-Ok-clause-fault : goal.returns-in-Ok-clause-fault
returns-in-Ok-clause-fault g c =
    let keys = c.args.keys.now.items in
    let room : length keys < 100 = omega arith in
    let h = rw c.in-Ok.ensures.items at c.play-played.ensures.fault in
    IfErr-weaker c.play-played.result _ _ (λ e is. popped_fault c.args.evaluation.now keys c.args.key.now room (plays c.args.plan.now) c.requires.work (told e) is) h

pub returns-in-Ok-clause-grows : goal.returns-in-Ok-clause-grows
returns-in-Ok-clause-grows g c =
    let keys = c.args.keys.now.items in
    let room : length keys < 100 = omega arith in
    let h = rw c.in-Ok.ensures.items at c.play-played.ensures.grows in
    popped_grows c.args.evaluation.now keys c.args.key.now room _ _ h

pub returns-in-Ok-clause-stopped : goal.returns-in-Ok-clause-stopped
returns-in-Ok-clause-stopped g c =
    let keys = c.args.keys.now.items in
    let room : length keys < 100 = omega arith in
    let h = rw c.in-Ok.ensures.items at c.play-played.ensures.stopped in
    IfErr-weaker c.play-played.result _ _ (λ e is. popped_done c.args.evaluation.now keys c.args.key.now room _ (told e) is) h
