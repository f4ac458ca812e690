use Rattle.std.proofs.Common.{◌≡◌, ◌<◌, length, map, arith, rules, sym, subst, ◌∙◌}
use Rattle.fisca_key_semantics.proofs.Below.{below_refused}
use Rattle.fisca_model.specs.Seen.{key_seen}
use Rattle.fisca_check.specs.Formulas.{formula_view}
use Rattle.fisca_machine.specs.Running.{rest, resume}
use Rattle.fisca_simulation.proofs.Origins.{of_none, of_input, of_formula, of_default, of_nothing}
use Rattle.fisca_simulation.proofs.SourceLookups.{works_soundly}
use Rattle.fisca_simulation.proofs.Steps.{by_formula_full, by_formula_room, goes_on, goes_soundly}
use Rattle.fisca_model.specs.EvalFaults.{IsAnswer}
use Rattle.fisca_simulation.specs.PlainEvaluations.{IsWork, seen, sources_in}
use Rattle.fisca_simulation.proofs.work.+value.Goals as goal

pub by_formula-returns-then-len-ge-MOST_KEYS-clause-answer : goal.by_formula-returns-then-len-ge-MOST_KEYS-clause-answer
by_formula-returns-then-len-ge-MOST_KEYS-clause-answer t c =
    let long : length c.args.keys.now.items ≡ 100 = omega (arith, c.requires.depth) in
    let told_so = rw c.as_slice.ensures.value at c.too_long.ensures in
    by_formula_full c.args.evaluation.now c.args.variable.now c.args.formula.now c.args.key.now c.args.keys.now.items c.requires.work c.too_long.result told_so long

pub by_formula-returns-in-Ok-clause-answer : goal.by_formula-returns-in-Ok-clause-answer
by_formula-returns-in-Ok-clause-answer t c =
    let room : length c.args.keys.now.items < 100 = omega arith in
    let h = rw c.in-Ok.ensures.items at c.work_out-worked.ensures.answer in
    subst (λ w. IsAnswer w c.work_out-worked.result) (sym (by_formula_room c.args.evaluation.now c.args.variable.now c.args.formula.now c.args.key.now c.args.keys.now.items c.requires.work room)) h

pub value_below-returns-in_default-clause-answer : goal.value_below-returns-in_default-clause-answer
value_below-returns-in_default-clause-answer t c =
    let s = c.args.evaluation.now in
    let k = key_seen c.args.key.now in
    below_refused (sources_in s) (map key_seen c.args.keys.now.items) k (of_none (seen s) k (sym (c.in_default.ensures)))

pub value_below-returns-in-Some-input-clause-answer : goal.value_below-returns-in-Some-input-clause-answer
value_below-returns-in-Some-input-clause-answer t c =
    let s = c.args.evaluation.now in
    let k = key_seen c.args.key.now in
    rw c.as_slice.ensures.value at (c.at_hand.ensures (sources_in s) (of_input (seen s) k c.in-Some.variable.now (sym (c.in-Some.ensures)) c.in-Some-input.value (sym (c.in-Some-input.ensures))))

pub value_below-by_formula-requires : goal.value_below-by_formula-requires
value_below-by_formula-requires t c =
    let s = c.args.evaluation.now in
    let k = key_seen c.args.key.now in
    let w = c.in-Some.variable.now in
    let f = formula_view c.in-Some-formula.formula.now in
    let e = sym (c.in-Some.ensures) in
    let h = sym (c.in-Some-formula.ensures) in
    let work : IsWork s c.in-Some.variable.now c.in-Some-formula.formula.now c.args.key.now = record {
      source = of_formula (seen s) k w e (sym (c.in_default-input.ensures)) f h;
      sound = works_soundly (seen s) c.requires.evaluation.safe k w e f h;
    } in
    (search rules, (c.requires.evaluation, (work, c.requires.depth)))

pub value_below-returns-in-Some-default_of-clause-answer : goal.value_below-returns-in-Some-default_of-clause-answer
value_below-returns-in-Some-default_of-clause-answer t c =
    let s = c.args.evaluation.now in
    let k = key_seen c.args.key.now in
    rw c.as_slice-in-Some-default_of.ensures.value at
    (c.at_hand-in-Some-default_of.ensures (sources_in s) (of_default (seen s) k c.in-Some.variable.now (sym (c.in-Some.ensures)) (sym (c.in_default-input.ensures)) (sym (c.in-None.ensures)) c.in-Some-default_of.value (sym (c.in-Some-default_of.ensures))))

pub value_below-returns-in-None-default_of-clause-answer : goal.value_below-returns-in-None-default_of-clause-answer
value_below-returns-in-None-default_of-clause-answer t c =
    let s = c.args.evaluation.now in
    let k = key_seen c.args.key.now in
    below_refused (sources_in s) (map key_seen c.args.keys.now.items) k
    (of_nothing (seen s) k c.in-Some.variable.now (sym (c.in-Some.ensures)) (sym (c.in_default-input.ensures)) (sym (c.in-None.ensures)) (sym (c.in-None-default_of.ensures)))

pub work_out-loop-value-preserved : goal.work_out-loop-value-preserved
work_out-loop-value-preserved t c =
    let s = c.args.evaluation.now in
    let told = c.in-Needs.ensures.told in
    let below = c.in_ok-value-in-Needs.ensures in
    let answer = rw c.loop-value.invariant.keys at below.answer in
    let left = resume s.context c.loop-value.machine c.loop-value.control in
    let go = rest s.context c.run.new.self in
    record {
      ends_so = rw (c.give-control.ensures.machine, c.give-control.ensures.control, below.rest) (goes_on s c.args.variable.now c.args.formula.now c.args.key.now c.args.keys.now.items left c.loop-value.invariant.ends_so c.in-Needs.asked go told.0 c.in_ok-value-in-Needs.value answer);
      sound = rw (c.give-control.ensures.machine, c.give-control.ensures.control, below.rest) (goes_soundly s c.args.variable.now c.args.formula.now c.args.key.now c.args.keys.now.items left c.loop-value.invariant.ends_so c.in-Needs.asked go told.0 c.in_ok-value-in-Needs.value answer c.requires.evaluation c.loop-value.invariant.sound);
      waits = rw c.give-control.ensures.machine (below.waits ∙ sym told.1 ∙ c.loop-value.invariant.waits);
      keys = below.keys ∙ c.loop-value.invariant.keys;
    }
