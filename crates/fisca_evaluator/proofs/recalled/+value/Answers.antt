use Rattle.std.proofs.Common.{◌≡◌, ◌+◌, ◌<◌, ◌∷◌, [], length, length-append, map, None, Err, false, refl, arith, rules, sym, ap, subst, ◌∙◌, ⊎_elim}
use Rattle.std.proofs.lemmas.Result.{IfErr-weaker, IfOk-weaker, err_from_is_err_and}
use Rattle.fisca_model.specs.Causes.{fault_at, too_deep}
use Rattle.fisca_key_semantics.specs.Keys.{has}
use Rattle.fisca_key_semantics.specs.Stacks.{IsAskable}
use Rattle.fisca_key_semantics.proofs.Below.{below_refused}
use Rattle.fisca_check.specs.Formulas.{formula_view}
use Rattle.fisca_memo_theory.specs.Entries.{Remembered}
use Rattle.fisca_memo_theory.specs.Work.{Covered}
use Rattle.fisca_memo_theory.proofs.Gathering.{gathered_wider}
use Rattle.fisca_memo_theory.proofs.Growing.{grows_on, grows_wider}
use Rattle.fisca_memo_theory.proofs.Reading.{none_read}
use Rattle.fisca_memo_theory.proofs.Steps.{covered_wider}
use Rattle.fisca_memo_theory.proofs.WorkDone.{covered_known, passed_path_more, work_refused}
use Rattle.fisca_model.specs.Seen.{key_seen, value_seen}
use Rattle.fisca_inputs.specs.Typed.{IsValueOf}
use Rattle.fisca_machine.specs.Running.{rest, resume}
use Rattle.fisca_simulation.specs.Sound.{GivesOnly}
use Rattle.fisca_simulation.proofs.Origins.{of_none, of_input, of_formula, of_default, of_nothing}
use Rattle.fisca_simulation.proofs.SourceLookups.{works_soundly}
use Rattle.fisca_model.specs.EvalFaults.{told}
use Rattle.fisca_evaluator.proofs.Memories.{none_there}
use Rattle.fisca_evaluator.proofs.Outcomes.{on_ok_any, told_any}
use Rattle.fisca_evaluator.proofs.Recalls.{full_below, full_done}
use Rattle.fisca_evaluator.proofs.Remembering.{grows_none, pushed_working, pushed_passed, popped_known, popped_grows, popped_done, popped_fault, own_known, own_work, kept_grows, kept_covered, kept_counted, lost_counted}
use Rattle.fisca_evaluator.proofs.Risen.{counted_none, counted_on}
use Rattle.fisca_evaluator.proofs.Working.{begins, nothing_asked, done_known, done_all, done_read, failed_fault, failed_done, next_stack, next_passed, next_fault, next_work, next_apart, next_done, next_more, next_read, next_reading, next_sound}
use Rattle.fisca_evaluator.specs.Recalled.{HasPassedTo, IsStack, work_at, work_below}
use Rattle.fisca_evaluator.specs.Evaluations.{known_in, marks_in, seen, sources_in, work}
use Rattle.fisca_evaluator.specs.Evaluations as evaluations
use Rattle.fisca_evaluator.proofs.recalled.+value.Goals as goal

-- work_out

pub work_out-loop-value-init : goal.work_out-loop-value-init
work_out-loop-value-init g t c =
    let s = c.args.evaluation.now in
    let begun = (rw c.as_slice-locals.ensures.value at c.in-Ok.ensures.begun) ∙ begins s c.args.variable.now c.args.formula.now c.args.key.now c.requires.evaluation in
    record {
      gathered = nothing_asked s (work s c.args.variable.now c.args.formula.now c.args.key.now) c.args.key.now _ _ _ begun;
      reading = nothing_asked s (work s c.args.variable.now c.args.formula.now c.args.key.now) c.args.key.now _ _ _ begun;
      read = none_read (marks_in s) (sources_in s) _ _;
      sound = subst (GivesOnly (known_in s) (IsValueOf (known_in s) c.args.key.now.variable)) (sym begun) c.requires.work.sound;
      waits = c.in-Ok.ensures.waits;
      memory = c.requires.memory;
      keys = refl;
      grows = grows_none _ _;
      apart = λ x. x;
      counted = counted_none _ _;
      lost = refl;
    }

pub work_out-remember-requires : goal.work_out-remember-requires
work_out-remember-requires g t c =
    let s = c.args.evaluation.now in
    let i = c.loop-value.invariant in
    let keys = c.args.keys.now.items in
    let r = resume s.context c.loop-value.machine c.loop-value.control in
    let M = Remembered (g.R.Recall.find c.loop-value.store.recall) in
    let told = c.in-Done.ensures.told.0 in
    let known = done_known s (work s c.args.variable.now c.args.formula.now c.args.key.now) c.args.key.now keys r c.loop-value.tallest M c.requires.work i.gathered c.in-Done.value told in
    record {
      known = own_known s keys c.args.key.now (value_seen c.in-Done.value) (c.loop-value.tallest + 1) known;
      read = rw c.wheels_of.ensures (done_read s (work s c.args.variable.now c.args.formula.now c.args.key.now) c.args.key.now keys r c.loop-value.tallest c.loop-value.reads c.requires.work i.reading i.read c.in-Done.value told);
      memory = i.memory;
      miss = λ x. none_there (g.R.Recall.find c.args.store.now.recall) (key_seen c.args.key.now) c.requires.miss (i.apart x);
      formula = (_, c.requires.work.source);
      work = done_all s (work s c.args.variable.now c.args.formula.now c.args.key.now) c.args.key.now keys r c.loop-value.tallest M c.requires.work i.gathered c.in-Done.value told;
    }

pub work_out-returns-in-Done-clause-known : goal.work_out-returns-in-Done-clause-known
work_out-returns-in-Done-clause-known g t c =
    let s = c.args.evaluation.now in
    let r = resume s.context c.loop-value.machine c.loop-value.control in
    let M = Remembered (g.R.Recall.find c.loop-value.store.recall) in
    done_known s (work s c.args.variable.now c.args.formula.now c.args.key.now) c.args.key.now c.args.keys.now.items r c.loop-value.tallest M c.requires.work c.loop-value.invariant.gathered c.in-Done.value c.in-Done.ensures.told.0

pub work_out-returns-in-Done-clause-read : goal.work_out-returns-in-Done-clause-read
work_out-returns-in-Done-clause-read g t c =
    let s = c.args.evaluation.now in
    let i = c.loop-value.invariant in
    let r = resume s.context c.loop-value.machine c.loop-value.control in
    rw c.wheels_of.ensures (done_read s (work s c.args.variable.now c.args.formula.now c.args.key.now) c.args.key.now c.args.keys.now.items r c.loop-value.tallest c.loop-value.reads c.requires.work i.reading i.read c.in-Done.value c.in-Done.ensures.told.0)

pub work_out-returns-in-Done-clause-grows : goal.work_out-returns-in-Done-clause-grows
work_out-returns-in-Done-clause-grows g t c =
    let s = c.args.evaluation.now in
    let i = c.loop-value.invariant in
    let keys = c.args.keys.now.items in
    let r = resume s.context c.loop-value.machine c.loop-value.control in
    let M = Remembered (g.R.Recall.find c.loop-value.store.recall) in
    let known = done_known s (work s c.args.variable.now c.args.formula.now c.args.key.now) c.args.key.now keys r c.loop-value.tallest M c.requires.work i.gathered c.in-Done.value c.in-Done.ensures.told.0 in
    kept_grows _ _ _ _ _ c.in_ok-remember-in-Done.ensures.ok (work_at (sources_in s) keys c.args.key.now) (own_work s keys c.args.key.now (value_seen c.in-Done.value) (c.loop-value.tallest + 1) known (_, c.requires.work.source)) i.grows

pub work_out-returns-in-Done-clause-covered : goal.work_out-returns-in-Done-clause-covered
work_out-returns-in-Done-clause-covered g t c =
    kept_covered _ _ (g.R.Recall.find c.args.store.now.recall) _ _ c.in_ok-remember-in-Done.ensures.ok (sources_in c.args.evaluation.now) c.remember.ensures.memory.truth

pub work_out-returns-in-Done-clause-counted : goal.work_out-returns-in-Done-clause-counted
work_out-returns-in-Done-clause-counted g t c =
    let i = c.loop-value.invariant in
    kept_counted _ _ _ _ _ c.in_ok-remember-in-Done.ensures.ok _ _ _ i.counted c.in_ok-remember-in-Done.ensures.kept
    (λ x. none_there (g.R.Recall.find c.args.store.now.recall) (key_seen c.args.key.now) c.requires.miss (i.apart x))

pub work_out-returns-in_err-remember-in-Done-clause-grows : goal.work_out-returns-in_err-remember-in-Done-clause-grows
work_out-returns-in_err-remember-in-Done-clause-grows g t c = rw c.in_err-remember-in-Done.ensures.err c.loop-value.invariant.grows

pub work_out-returns-in_err-remember-in-Done-clause-counted : goal.work_out-returns-in_err-remember-in-Done-clause-counted
work_out-returns-in_err-remember-in-Done-clause-counted g t c =
    lost_counted _ _ _ _ _ _ c.in_err-remember-in-Done.ensures.err c.in_err-remember-in-Done.ensures.lost c.loop-value.invariant.counted

pub work_out-returns-in-Failed-clause-fault : goal.work_out-returns-in-Failed-clause-fault
work_out-returns-in-Failed-clause-fault g t c =
    let s = c.args.evaluation.now in
    let i = c.loop-value.invariant in
    let r = resume s.context c.loop-value.machine c.loop-value.control in
    let M = Remembered (g.R.Recall.find c.loop-value.store.recall) in
    failed_fault s (work s c.args.variable.now c.args.formula.now c.args.key.now) c.args.key.now c.args.keys.now.items r c.loop-value.tallest M c.requires.work i.gathered _ c.in-Failed.ensures.told _ c.told_of.ensures

pub work_out-returns-in-Failed-clause-stopped : goal.work_out-returns-in-Failed-clause-stopped
work_out-returns-in-Failed-clause-stopped g t c =
    let s = c.args.evaluation.now in
    let i = c.loop-value.invariant in
    let r = resume s.context c.loop-value.machine c.loop-value.control in
    let M = Remembered (g.R.Recall.find c.loop-value.store.recall) in
    failed_done s (work s c.args.variable.now c.args.formula.now c.args.key.now) c.args.key.now c.args.keys.now.items r c.loop-value.tallest M c.requires.work i.gathered _ c.in-Failed.ensures.told _

pub work_out-value_below-requires : goal.work_out-value_below-requires
work_out-value_below-requires g t c κs within =
    let s = c.args.evaluation.now in
    let i = c.loop-value.invariant in
    let keys = c.args.keys.now.items in
    let r = resume s.context c.loop-value.machine c.loop-value.control in
    let M = Remembered (g.R.Recall.find c.loop-value.store.recall) in
    let told = c.in-Needs.ensures.told in
    let j = c.in-Needs.asked in
    let go = rest s.context c.run.new.self in
    let stack = next_stack s (work s c.args.variable.now c.args.formula.now c.args.key.now) c.args.key.now keys r c.loop-value.tallest M c.requires.work i.gathered j go told.0 c.requires.stack in
    let before = passed_path_more (sources_in s) (Remembered (g.R.Recall.find c.args.store.now.recall)) M i.grows.kept (map key_seen keys) c.requires.passed in
    let passed = next_passed s (work s c.args.variable.now c.args.formula.now c.args.key.now) c.args.key.now keys r c.loop-value.tallest M c.requires.work i.gathered j go told.0 c.requires.stack before in
    let long : length c.loop-value.keys.items ≡ length keys = ap length i.keys in
    (omega arith, (within, (c.requires.evaluation, (rw i.keys c.requires.depth, (subst (λ ks. IsStack (sources_in s) ks j) (sym i.keys) stack, (i.memory, subst (λ ks. HasPassedTo (sources_in s) (g.R.Recall.find c.loop-value.store.recall) ks j) (sym i.keys) passed))))))

pub work_out-returns-in_err-known-in-Needs-clause-fault : goal.work_out-returns-in_err-known-in-Needs-clause-fault
work_out-returns-in_err-known-in-Needs-clause-fault g t c =
    let s = c.args.evaluation.now in
    let i = c.loop-value.invariant in
    let keys = c.args.keys.now.items in
    let r = resume s.context c.loop-value.machine c.loop-value.control in
    let M = Remembered (g.R.Recall.find c.loop-value.store.recall) in
    let told = c.in-Needs.ensures.told in
    let p = err_from_is_err_and c.from_residual-in_err-known-in-Needs.result c.from_residual-in_err-known-in-Needs.ensures.1 in
    let h = rw i.keys at c.in_err-known-in-Needs.ensures.fault in
    rw (p.1, p.2) (next_fault s (work s c.args.variable.now c.args.formula.now c.args.key.now) c.args.key.now keys r c.loop-value.tallest M c.requires.work i.gathered c.in-Needs.asked (rest s.context c.run.new.self) told.0 c.requires.stack _ h)

pub work_out-returns-in_err-known-in-Needs-clause-stopped : goal.work_out-returns-in_err-known-in-Needs-clause-stopped
work_out-returns-in_err-known-in-Needs-clause-stopped g t c =
    let s = c.args.evaluation.now in
    let i = c.loop-value.invariant in
    let keys = c.args.keys.now.items in
    let src = sources_in s in
    let r = resume s.context c.loop-value.machine c.loop-value.control in
    let M = Remembered (g.R.Recall.find c.loop-value.store.recall) in
    let new = Remembered (g.R.Recall.find c.value_below.new.store.recall) in
    let told = c.in-Needs.ensures.told in
    let p = err_from_is_err_and c.from_residual-in_err-known-in-Needs.result c.from_residual-in_err-known-in-Needs.ensures.1 in
    let h = rw i.keys at c.in_err-known-in-Needs.ensures.fault in
    let below = rw i.keys at c.in_err-known-in-Needs.ensures.stopped in
    let wide = gathered_wider src _ _ _ c.loop-value.tallest (Covered src M) (Covered src new) (covered_wider src M new c.in_err-known-in-Needs.ensures.grows.kept) i.gathered in
    rw (p.1, p.2) (next_done s (work s c.args.variable.now c.args.formula.now c.args.key.now) c.args.key.now keys r c.loop-value.tallest new c.requires.work wide c.in-Needs.asked (rest s.context c.run.new.self) told.0 _ h below)

pub work_out-returns-in_err-known-in-Needs-clause-grows : goal.work_out-returns-in_err-known-in-Needs-clause-grows
work_out-returns-in_err-known-in-Needs-clause-grows g t c =
    let s = c.args.evaluation.now in
    let i = c.loop-value.invariant in
    let keys = c.args.keys.now.items in
    let r = resume s.context c.loop-value.machine c.loop-value.control in
    let M = Remembered (g.R.Recall.find c.loop-value.store.recall) in
    let told = c.in-Needs.ensures.told in
    let h = rw i.keys at c.in_err-known-in-Needs.ensures.grows in
    grows_on _ _ _ (work_at (sources_in s) keys c.args.key.now) i.grows (grows_wider _ _ _ _ h (next_work s (work s c.args.variable.now c.args.formula.now c.args.key.now) c.args.key.now keys r c.loop-value.tallest M c.requires.work i.gathered c.in-Needs.asked (rest s.context c.run.new.self) told.0))

pub work_out-returns-in_err-known-in-Needs-clause-counted : goal.work_out-returns-in_err-known-in-Needs-clause-counted
work_out-returns-in_err-known-in-Needs-clause-counted g t c = counted_on _ _ _ _ _ _ c.loop-value.invariant.counted c.in_err-known-in-Needs.ensures.counted

pub work_out-loop-value-preserved : goal.work_out-loop-value-preserved
work_out-loop-value-preserved g t c =
    let s = c.args.evaluation.now in
    let i = c.loop-value.invariant in
    let keys = c.args.keys.now.items in
    let src = sources_in s in
    let r = resume s.context c.loop-value.machine c.loop-value.control in
    let M = Remembered (g.R.Recall.find c.loop-value.store.recall) in
    let new = Remembered (g.R.Recall.find c.value_below.new.store.recall) in
    let told = c.in-Needs.ensures.told in
    let j = c.in-Needs.asked in
    let go = rest s.context c.run.new.self in
    let below = c.in_ok-known-in-Needs.ensures in
    let x = c.in_ok-known-in-Needs.known in
    let known = rw i.keys at below.known in
    let grown = rw i.keys at below.grows in
    record {
      gathered = rw (c.give-control.ensures.machine, c.give-control.ensures.control, below.rest, c.max-tallest.ensures) (next_more s (work s c.args.variable.now c.args.formula.now c.args.key.now) c.args.key.now keys r c.loop-value.tallest M c.requires.work i.gathered j go told.0 x known new grown.kept below.covered);
      reading = rw (c.give-control.ensures.machine, c.give-control.ensures.control, below.rest, c.max-tallest.ensures) (next_reading s (work s c.args.variable.now c.args.formula.now c.args.key.now) c.args.key.now keys r c.loop-value.tallest c.loop-value.reads c.requires.work i.reading i.read j go told.0 x known below.read);
      read = next_read s (work s c.args.variable.now c.args.formula.now c.args.key.now) c.args.key.now keys r c.loop-value.tallest c.loop-value.reads c.requires.work i.reading i.read j go told.0 x known below.read;
      sound = rw (c.give-control.ensures.machine, c.give-control.ensures.control, below.rest) (next_sound s (work s c.args.variable.now c.args.formula.now c.args.key.now) c.args.key.now keys r c.loop-value.tallest M c.requires.work i.gathered j go told.0 x known c.requires.evaluation i.sound);
      waits = rw c.give-control.ensures.machine (below.waits ∙ sym told.1 ∙ i.waits);
      memory = below.memory;
      keys = below.keys ∙ i.keys;
      grows = grows_on _ _ _ (work_at src keys c.args.key.now) i.grows (grows_wider _ _ _ _ grown (next_work s (work s c.args.variable.now c.args.formula.now c.args.key.now) c.args.key.now keys r c.loop-value.tallest M c.requires.work i.gathered j go told.0));
      apart = λ y. ⊎_elim (λ (a : M (key_seen c.args.key.now)). i.apart a)
          (λ (b : work_below src keys j (key_seen c.args.key.now)). absurd (next_apart s (work s c.args.variable.now c.args.formula.now c.args.key.now) c.args.key.now keys r c.loop-value.tallest M c.requires.work i.gathered j go told.0 b))
          (grown.only (key_seen c.args.key.now) y);
      counted = counted_on _ _ _ _ _ _ i.counted below.counted;
      lost = below.lost ∙ i.lost;
    }

-- by_formula

pub by_formula-returns-then-len-ge-MOST_KEYS-clause-fault : goal.by_formula-returns-then-len-ge-MOST_KEYS-clause-fault
by_formula-returns-then-len-ge-MOST_KEYS-clause-fault g t c =
    let long : length c.args.keys.now.items ≡ 100 = omega (arith, c.requires.depth) in
    let first = rw c.as_slice.ensures.value at c.first_of_chain.ensures in
    full_below c.args.evaluation.now c.args.keys.now.items c.args.key.now c.requires.stack c.requires.away (subst IsAskable (sym c.requires.work.source) tt) long
    ∙ ap (λ k. Err (fault_at too_deep k)) (sym first)

pub by_formula-returns-then-len-ge-MOST_KEYS-clause-stopped : goal.by_formula-returns-then-len-ge-MOST_KEYS-clause-stopped
by_formula-returns-then-len-ge-MOST_KEYS-clause-stopped g t c =
    let long : length c.args.keys.now.items ≡ 100 = omega (arith, c.requires.depth) in
    full_done c.args.evaluation.now c.args.keys.now.items c.args.key.now _ long

pub by_formula-returns-then-len-ge-MOST_KEYS-clause-counted : goal.by_formula-returns-then-len-ge-MOST_KEYS-clause-counted
by_formula-returns-then-len-ge-MOST_KEYS-clause-counted g t c = counted_none _ _

pub by_formula-returns-in-Err-clause-counted : goal.by_formula-returns-in-Err-clause-counted
by_formula-returns-in-Err-clause-counted g t c = counted_none _ _

pub by_formula-work_out-worked-requires : goal.by_formula-work_out-worked-requires
by_formula-work_out-worked-requires g t c κs within =
    let s = c.args.evaluation.now in
    let keys = c.args.keys.now.items in
    let room : length keys < 100 = omega arith in
    let pushed = c.in-Ok.ensures.items in
    let longer : length c.push.new.self.items ≡ length keys + 1 = rw pushed (length-append keys (c.args.key.now ∷ [])) in (
      omega arith,
      (
        within,
        (
          c.requires.evaluation,
          (
            c.requires.work,
            (
              omega arith,
              (rw pushed (pushed_working s keys c.args.key.now c.requires.stack c.requires.away room), (c.requires.memory, (c.requires.miss, rw pushed (pushed_passed s keys c.args.key.now _ c.requires.passed)))),
            ),
          ),
        ),
      ),
    )

pub by_formula-returns-in-Ok-clause-known : goal.by_formula-returns-in-Ok-clause-known
by_formula-returns-in-Ok-clause-known g t c =
    let keys = c.args.keys.now.items in
    let room : length keys < 100 = omega arith in
    let h = rw c.in-Ok.ensures.items at c.work_out-worked.ensures.known in
    IfOk-weaker c.work_out-worked.result _ _ (λ k is. popped_known c.args.evaluation.now keys c.args.key.now room k is) h

pub by_formula-returns-in-Ok-clause-fault : goal.by_formula-returns-in-Ok-clause-fault
by_formula-returns-in-Ok-clause-fault g t c =
    let keys = c.args.keys.now.items in
    let room : length keys < 100 = omega arith in
    let h = rw c.in-Ok.ensures.items at c.work_out-worked.ensures.fault in
    IfErr-weaker c.work_out-worked.result _ _ (λ e is. popped_fault c.args.evaluation.now keys c.args.key.now room (work c.args.evaluation.now c.args.variable.now c.args.formula.now c.args.key.now) c.requires.work (told e) is) h

pub by_formula-returns-in-Ok-clause-grows : goal.by_formula-returns-in-Ok-clause-grows
by_formula-returns-in-Ok-clause-grows g t c =
    let keys = c.args.keys.now.items in
    let room : length keys < 100 = omega arith in
    let h = rw c.in-Ok.ensures.items at c.work_out-worked.ensures.grows in
    popped_grows c.args.evaluation.now keys c.args.key.now room _ _ h

pub by_formula-returns-in-Ok-clause-stopped : goal.by_formula-returns-in-Ok-clause-stopped
by_formula-returns-in-Ok-clause-stopped g t c =
    let keys = c.args.keys.now.items in
    let room : length keys < 100 = omega arith in
    let h = rw c.in-Ok.ensures.items at c.work_out-worked.ensures.stopped in
    IfErr-weaker c.work_out-worked.result _ _ (λ e is. popped_done c.args.evaluation.now keys c.args.key.now room _ (told e) is) h

pub work_out-returns-in-Err-clause-counted : goal.work_out-returns-in-Err-clause-counted
work_out-returns-in-Err-clause-counted g t c = counted_none _ _

-- value_below

pub value_below-returns-in_default-clause-fault : goal.value_below-returns-in_default-clause-fault
value_below-returns-in_default-clause-fault g t c =
    let s = c.args.evaluation.now in
    let k = key_seen c.args.key.now in
    below_refused (sources_in s) (map key_seen c.args.keys.now.items) k (of_none (seen s) k (sym c.in_default.ensures))

pub value_below-returns-in_default-clause-stopped : goal.value_below-returns-in_default-clause-stopped
value_below-returns-in_default-clause-stopped g t c =
    let s = c.args.evaluation.now in
    let k = key_seen c.args.key.now in
    λ i w. absurd (work_refused (sources_in s) (Remembered (g.R.Recall.find c.args.store.now.recall)) k (of_none (seen s) k (sym c.in_default.ensures)) _ i w)

pub value_below-returns-in_default-clause-counted : goal.value_below-returns-in_default-clause-counted
value_below-returns-in_default-clause-counted g t c = counted_none _ _

pub value_below-returns-in_err-known-clause-counted : goal.value_below-returns-in_err-known-clause-counted
value_below-returns-in_err-known-clause-counted g t c = counted_none _ _

pub value_below-returns-in-Some-2-clause-counted : goal.value_below-returns-in-Some-2-clause-counted
value_below-returns-in-Some-2-clause-counted g t c = counted_none _ _

pub value_below-returns-in-Some-input-clause-covered : goal.value_below-returns-in-Some-input-clause-covered
value_below-returns-in-Some-input-clause-covered g t c =
    let s = c.args.evaluation.now in
    let k = key_seen c.args.key.now in
    let e = of_input (seen s) k c.in-Some.variable.now (sym c.in-Some.ensures) c.in-Some-input.value (sym c.in-Some-input.ensures) in
    on_ok_any c.at_hand.result _ (covered_known (sources_in s) (Remembered (g.R.Recall.find c.args.store.now.recall)) k (value_seen c.in-Some-input.value) e)

pub value_below-returns-in-Some-input-clause-stopped : goal.value_below-returns-in-Some-input-clause-stopped
value_below-returns-in-Some-input-clause-stopped g t c =
    let s = c.args.evaluation.now in
    let k = key_seen c.args.key.now in
    let e = of_input (seen s) k c.in-Some.variable.now (sym c.in-Some.ensures) c.in-Some-input.value (sym c.in-Some-input.ensures) in
    told_any c.at_hand.result _ (λ i w. covered_known (sources_in s) (Remembered (g.R.Recall.find c.args.store.now.recall)) k (value_seen c.in-Some-input.value) e _ i w)

pub value_below-returns-in-Some-input-clause-counted : goal.value_below-returns-in-Some-input-clause-counted
value_below-returns-in-Some-input-clause-counted g t c = counted_none _ _

pub value_below-by_formula-requires : goal.value_below-by_formula-requires
value_below-by_formula-requires g t c κs within =
    let s = c.args.evaluation.now in
    let k = key_seen c.args.key.now in
    let w = c.in-Some.variable.now in
    let f = formula_view c.in-Some-formula.formula.now in
    let e = sym (c.in-Some.ensures) in
    let h = sym (c.in-Some-formula.ensures) in
    let is : evaluations.IsWork s (work s c.in-Some.variable.now c.in-Some-formula.formula.now c.args.key.now) c.args.key.now = record {
      source = of_formula (seen s) k w e (sym (c.in_default-input.ensures)) f h;
      sound = works_soundly (seen s) c.requires.evaluation.safe k w e f h;
    } in
    let away : has (map key_seen c.args.keys.now.items) k ≡ false = search rules in
    let miss : g.R.Recall.find c.args.store.now.recall k ≡ None = search rules in
    (omega arith, (within, (c.requires.evaluation, (is, (c.requires.depth, (c.requires.stack, (away, (c.requires.memory, (miss, c.requires.passed)))))))))

pub value_below-returns-in-Some-default_of-clause-covered : goal.value_below-returns-in-Some-default_of-clause-covered
value_below-returns-in-Some-default_of-clause-covered g t c =
    let s = c.args.evaluation.now in
    let k = key_seen c.args.key.now in
    let e = of_default (seen s) k c.in-Some.variable.now (sym c.in-Some.ensures) (sym c.in_default-input.ensures) (sym c.in-None.ensures) c.in-Some-default_of.value (sym c.in-Some-default_of.ensures) in
    on_ok_any c.at_hand-in-Some-default_of.result _ (covered_known (sources_in s) (Remembered (g.R.Recall.find c.args.store.now.recall)) k (value_seen c.in-Some-default_of.value) e)

pub value_below-returns-in-Some-default_of-clause-stopped : goal.value_below-returns-in-Some-default_of-clause-stopped
value_below-returns-in-Some-default_of-clause-stopped g t c =
    let s = c.args.evaluation.now in
    let k = key_seen c.args.key.now in
    let e = of_default (seen s) k c.in-Some.variable.now (sym c.in-Some.ensures) (sym c.in_default-input.ensures) (sym c.in-None.ensures) c.in-Some-default_of.value (sym c.in-Some-default_of.ensures) in
    told_any c.at_hand-in-Some-default_of.result _ (λ i w. covered_known (sources_in s) (Remembered (g.R.Recall.find c.args.store.now.recall)) k (value_seen c.in-Some-default_of.value) e _ i w)

pub value_below-returns-in-Some-default_of-clause-counted : goal.value_below-returns-in-Some-default_of-clause-counted
value_below-returns-in-Some-default_of-clause-counted g t c = counted_none _ _

pub value_below-returns-in-None-default_of-clause-fault : goal.value_below-returns-in-None-default_of-clause-fault
value_below-returns-in-None-default_of-clause-fault g t c =
    let s = c.args.evaluation.now in
    let k = key_seen c.args.key.now in
    below_refused (sources_in s) (map key_seen c.args.keys.now.items) k
    (of_nothing (seen s) k c.in-Some.variable.now (sym c.in-Some.ensures) (sym c.in_default-input.ensures) (sym c.in-None.ensures) (sym c.in-None-default_of.ensures))

pub value_below-returns-in-None-default_of-clause-stopped : goal.value_below-returns-in-None-default_of-clause-stopped
value_below-returns-in-None-default_of-clause-stopped g t c =
    let s = c.args.evaluation.now in
    let k = key_seen c.args.key.now in
    let e = of_nothing (seen s) k c.in-Some.variable.now (sym c.in-Some.ensures) (sym c.in_default-input.ensures) (sym c.in-None.ensures) (sym c.in-None-default_of.ensures) in
    λ i w. absurd (work_refused (sources_in s) (Remembered (g.R.Recall.find c.args.store.now.recall)) k e _ i w)

pub value_below-returns-in-None-default_of-clause-counted : goal.value_below-returns-in-None-default_of-clause-counted
value_below-returns-in-None-default_of-clause-counted g t c = counted_none _ _
