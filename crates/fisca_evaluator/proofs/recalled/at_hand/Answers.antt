use Rattle.std.proofs.Common.{◌≡◌, ◌<◌, Err, length, sym, ap, subst, ◌∙◌, arith}
use Rattle.fisca_model.specs.Causes.{fault_at, too_deep}
use Rattle.fisca_key_semantics.specs.Stacks.{IsAskable}
use Rattle.fisca_memo_theory.specs.Reads.{IsReads}
use Rattle.fisca_model.specs.Seen.{key_seen}
use Rattle.fisca_evaluator.proofs.Recalls.{full_below, hand_below, hand_read}
use Rattle.fisca_evaluator.specs.Evaluations.{marks_in, sources_in}
use Rattle.fisca_evaluator.proofs.recalled.at_hand.Goals as goal

pub returns-then-keys-ge-MOST_KEYS-clause-fault : goal.returns-then-keys-ge-MOST_KEYS-clause-fault
returns-then-keys-ge-MOST_KEYS-clause-fault c =
    let long : length c.args.keys.now ≡ 100 = omega (arith, c.requires.depth) in
    full_below c.args.evaluation.now c.args.keys.now c.args.key.now c.requires.stack c.requires.away (subst IsAskable (sym c.requires.known) tt) long
    ∙ ap (λ k. Err (fault_at too_deep k)) (sym c.first_of_chain.ensures)

pub returns-clause-known : goal.returns-clause-known
returns-clause-known c =
    let room : length c.args.keys.now < 100 = omega arith in
    hand_below c.args.evaluation.now c.args.keys.now c.args.key.now c.args.value c.requires.known room

pub returns-clause-read : goal.returns-clause-read
returns-clause-read c =
    let s = c.args.evaluation.now in
    subst (IsReads (marks_in s) (sources_in s) (key_seen c.args.key.now)) (sym c.wheels_of.ensures) (hand_read s c.args.keys.now c.args.key.now c.args.value c.requires.known)
