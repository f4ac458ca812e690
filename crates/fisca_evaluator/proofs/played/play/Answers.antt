use Rattle.std.proofs.Common.{◌+◌, map, refl, sym, subst, ◌∙◌, ⊎_elim}
use Rattle.std.proofs.lemmas.Result.{err_from_is_err_and}
use Rattle.fisca_memo_theory.specs.Entries.{Remembered}
use Rattle.fisca_memo_theory.specs.Work.{Covered}
use Rattle.fisca_memo_theory.proofs.Gathering.{gathered_wider}
use Rattle.fisca_memo_theory.proofs.Growing.{grows_on, grows_wider}
use Rattle.fisca_memo_theory.proofs.Reading.{none_read}
use Rattle.fisca_memo_theory.proofs.Steps.{covered_wider}
use Rattle.fisca_memo_theory.proofs.WorkDone.{passed_path_more}
use Rattle.fisca_model.specs.Seen.{key_seen, value_seen}
use Rattle.fisca_inputs.specs.Typed.{IsValueOf}
use Rattle.fisca_machine.specs.Plans.{behind_operand, plays}
use Rattle.fisca_simulation.specs.Sound.{GivesOnly}
use Rattle.fisca_model.specs.EvalFaults.{told}
use Rattle.fisca_evaluator.proofs.Memories.{none_there}
use Rattle.fisca_evaluator.proofs.Remembering.{grows_none, own_known, own_work, kept_grows, kept_covered, kept_counted, lost_counted}
use Rattle.fisca_evaluator.proofs.Risen.{counted_none, counted_on}
use Rattle.fisca_evaluator.proofs.Working.{nothing_asked, done_known, done_all, done_read, failed_fault, failed_done, next_stack, next_passed, next_fault, next_work, next_apart, next_done, next_more, next_read, next_reading, next_sound}
use Rattle.fisca_evaluator.specs.Recalled.{HasPassedTo, IsStack, work_at, work_below}
use Rattle.fisca_evaluator.specs.Evaluations.{known_in, marks_in, sources_in, work}
use Rattle.fisca_evaluator.proofs.played.play.Goals as goal

pub loop-value-init : goal.loop-value-init
loop-value-init g c =
    let s = c.args.evaluation.now in
    let begun = c.begin-progress.ensures in
    record {
      gathered = nothing_asked s (plays c.args.plan.now) c.args.key.now _ _ _ begun;
      reading = nothing_asked s (plays c.args.plan.now) c.args.key.now _ _ _ begun;
      read = none_read (marks_in s) (sources_in s) _ _;
      sound = subst (GivesOnly (known_in s) (IsValueOf (known_in s) c.args.key.now.variable)) (sym begun) c.requires.work.sound;
      memory = c.requires.memory;
      keys = refl;
      grows = grows_none _ _;
      apart = λ x. x;
      counted = counted_none _ _;
      lost = refl;
    }

pub remember-requires : goal.remember-requires
remember-requires g c =
    let s = c.args.evaluation.now in
    let i = c.loop-value.invariant in
    let keys = c.args.keys.now.items in
    let r = behind_operand c.loop-value.progress (value_seen c.loop-value.operand) in
    let M = Remembered (g.R.Recall.find c.loop-value.store.recall) in
    let told = c.in-Done.ensures.stop in
    let known = done_known s (plays c.args.plan.now) c.args.key.now keys r c.loop-value.tallest M c.requires.work i.gathered c.in-Done.value told in
    record {
      known = own_known s keys c.args.key.now (value_seen c.in-Done.value) (c.loop-value.tallest + 1) known;
      read = rw c.wheels_of.ensures (done_read s (plays c.args.plan.now) c.args.key.now keys r c.loop-value.tallest c.loop-value.reads c.requires.work i.reading i.read c.in-Done.value told);
      memory = i.memory;
      miss = λ x. none_there (g.R.Recall.find c.args.store.now.recall) (key_seen c.args.key.now) c.requires.miss (i.apart x);
      formula = (_, c.requires.work.source);
      work = done_all s (plays c.args.plan.now) c.args.key.now keys r c.loop-value.tallest M c.requires.work i.gathered c.in-Done.value told;
    }

pub returns-in-Done-clause-known : goal.returns-in-Done-clause-known
returns-in-Done-clause-known g c =
    let s = c.args.evaluation.now in
    let r = behind_operand c.loop-value.progress (value_seen c.loop-value.operand) in
    let M = Remembered (g.R.Recall.find c.loop-value.store.recall) in
    done_known s (plays c.args.plan.now) c.args.key.now c.args.keys.now.items r c.loop-value.tallest M c.requires.work c.loop-value.invariant.gathered c.in-Done.value c.in-Done.ensures.stop

pub returns-in-Done-clause-read : goal.returns-in-Done-clause-read
returns-in-Done-clause-read g c =
    let s = c.args.evaluation.now in
    let i = c.loop-value.invariant in
    let r = behind_operand c.loop-value.progress (value_seen c.loop-value.operand) in
    rw c.wheels_of.ensures (done_read s (plays c.args.plan.now) c.args.key.now c.args.keys.now.items r c.loop-value.tallest c.loop-value.reads c.requires.work i.reading i.read c.in-Done.value c.in-Done.ensures.stop)

pub returns-in-Done-clause-grows : goal.returns-in-Done-clause-grows
returns-in-Done-clause-grows g c =
    let s = c.args.evaluation.now in
    let i = c.loop-value.invariant in
    let keys = c.args.keys.now.items in
    let r = behind_operand c.loop-value.progress (value_seen c.loop-value.operand) in
    let M = Remembered (g.R.Recall.find c.loop-value.store.recall) in
    let known = done_known s (plays c.args.plan.now) c.args.key.now keys r c.loop-value.tallest M c.requires.work i.gathered c.in-Done.value c.in-Done.ensures.stop in
    kept_grows _ _ _ _ _ c.in_ok-remember-in-Done.ensures.ok (work_at (sources_in s) keys c.args.key.now) (own_work s keys c.args.key.now (value_seen c.in-Done.value) (c.loop-value.tallest + 1) known (_, c.requires.work.source)) i.grows

pub returns-in-Done-clause-covered : goal.returns-in-Done-clause-covered
returns-in-Done-clause-covered g c =
    kept_covered _ _ (g.R.Recall.find c.args.store.now.recall) _ _ c.in_ok-remember-in-Done.ensures.ok (sources_in c.args.evaluation.now) c.remember.ensures.memory.truth

pub returns-in-Done-clause-counted : goal.returns-in-Done-clause-counted
returns-in-Done-clause-counted g c =
    let i = c.loop-value.invariant in
    kept_counted _ _ _ _ _ c.in_ok-remember-in-Done.ensures.ok _ _ _ i.counted c.in_ok-remember-in-Done.ensures.kept
    (λ x. none_there (g.R.Recall.find c.args.store.now.recall) (key_seen c.args.key.now) c.requires.miss (i.apart x))

pub returns-in_err-remember-in-Done-clause-grows : goal.returns-in_err-remember-in-Done-clause-grows
returns-in_err-remember-in-Done-clause-grows g c = rw c.in_err-remember-in-Done.ensures.err c.loop-value.invariant.grows

pub returns-in_err-remember-in-Done-clause-counted : goal.returns-in_err-remember-in-Done-clause-counted
returns-in_err-remember-in-Done-clause-counted g c =
    lost_counted _ _ _ _ _ _ c.in_err-remember-in-Done.ensures.err c.in_err-remember-in-Done.ensures.lost c.loop-value.invariant.counted

pub returns-in-Failed-clause-fault : goal.returns-in-Failed-clause-fault
returns-in-Failed-clause-fault g c =
    let s = c.args.evaluation.now in
    let i = c.loop-value.invariant in
    let r = behind_operand c.loop-value.progress (value_seen c.loop-value.operand) in
    let M = Remembered (g.R.Recall.find c.loop-value.store.recall) in
    failed_fault s (plays c.args.plan.now) c.args.key.now c.args.keys.now.items r c.loop-value.tallest M c.requires.work i.gathered _ c.in-Failed.ensures.stop _ c.told_of.ensures

pub returns-in-Failed-clause-stopped : goal.returns-in-Failed-clause-stopped
returns-in-Failed-clause-stopped g c =
    let s = c.args.evaluation.now in
    let i = c.loop-value.invariant in
    let r = behind_operand c.loop-value.progress (value_seen c.loop-value.operand) in
    let M = Remembered (g.R.Recall.find c.loop-value.store.recall) in
    failed_done s (plays c.args.plan.now) c.args.key.now c.args.keys.now.items r c.loop-value.tallest M c.requires.work i.gathered _ c.in-Failed.ensures.stop _

pub value_below-requires : goal.value_below-requires
value_below-requires g c =
    let s = c.args.evaluation.now in
    let i = c.loop-value.invariant in
    let keys = c.args.keys.now.items in
    let r = behind_operand c.loop-value.progress (value_seen c.loop-value.operand) in
    let M = Remembered (g.R.Recall.find c.loop-value.store.recall) in
    let told = c.in-Needs.ensures.stop in
    let j = c.in-Needs.asked in
    let go = behind_operand c.go_on.new.self in
    let stack = next_stack s (plays c.args.plan.now) c.args.key.now keys r c.loop-value.tallest M c.requires.work i.gathered j go told c.requires.stack in
    let before = passed_path_more (sources_in s) (Remembered (g.R.Recall.find c.args.store.now.recall)) M i.grows.kept (map key_seen keys) c.requires.passed in
    let passed = next_passed s (plays c.args.plan.now) c.args.key.now keys r c.loop-value.tallest M c.requires.work i.gathered j go told c.requires.stack before in
    record {
      evaluation = c.requires.evaluation;
      depth = rw i.keys c.requires.depth;
      stack = subst (λ ks. IsStack (sources_in s) ks j) (sym i.keys) stack;
      memory = i.memory;
      passed = subst (λ ks. HasPassedTo (sources_in s) (g.R.Recall.find c.loop-value.store.recall) ks j) (sym i.keys) passed;
    }

pub returns-in_err-known-in-Needs-clause-fault : goal.returns-in_err-known-in-Needs-clause-fault
returns-in_err-known-in-Needs-clause-fault g c =
    let s = c.args.evaluation.now in
    let i = c.loop-value.invariant in
    let keys = c.args.keys.now.items in
    let r = behind_operand c.loop-value.progress (value_seen c.loop-value.operand) in
    let M = Remembered (g.R.Recall.find c.loop-value.store.recall) in
    let told = c.in-Needs.ensures.stop in
    let p = err_from_is_err_and c.from_residual-in_err-known-in-Needs.result c.from_residual-in_err-known-in-Needs.ensures.1 in
    let h = rw i.keys at c.in_err-known-in-Needs.ensures.fault in
    rw (p.1, p.2) (next_fault s (plays c.args.plan.now) c.args.key.now keys r c.loop-value.tallest M c.requires.work i.gathered c.in-Needs.asked (behind_operand c.go_on.new.self) told c.requires.stack _ h)

pub returns-in_err-known-in-Needs-clause-stopped : goal.returns-in_err-known-in-Needs-clause-stopped
returns-in_err-known-in-Needs-clause-stopped g c =
    let s = c.args.evaluation.now in
    let i = c.loop-value.invariant in
    let keys = c.args.keys.now.items in
    let src = sources_in s in
    let r = behind_operand c.loop-value.progress (value_seen c.loop-value.operand) in
    let M = Remembered (g.R.Recall.find c.loop-value.store.recall) in
    let new = Remembered (g.R.Recall.find c.value_below.new.store.recall) in
    let told = c.in-Needs.ensures.stop in
    let p = err_from_is_err_and c.from_residual-in_err-known-in-Needs.result c.from_residual-in_err-known-in-Needs.ensures.1 in
    let h = rw i.keys at c.in_err-known-in-Needs.ensures.fault in
    let below = rw i.keys at c.in_err-known-in-Needs.ensures.stopped in
    let wide = gathered_wider src _ _ _ c.loop-value.tallest (Covered src M) (Covered src new) (covered_wider src M new c.in_err-known-in-Needs.ensures.grows.kept) i.gathered in
    rw (p.1, p.2) (next_done s (plays c.args.plan.now) c.args.key.now keys r c.loop-value.tallest new c.requires.work wide c.in-Needs.asked (behind_operand c.go_on.new.self) told _ h below)

pub returns-in_err-known-in-Needs-clause-grows : goal.returns-in_err-known-in-Needs-clause-grows
returns-in_err-known-in-Needs-clause-grows g c =
    let s = c.args.evaluation.now in
    let i = c.loop-value.invariant in
    let keys = c.args.keys.now.items in
    let r = behind_operand c.loop-value.progress (value_seen c.loop-value.operand) in
    let M = Remembered (g.R.Recall.find c.loop-value.store.recall) in
    let told = c.in-Needs.ensures.stop in
    let h = rw i.keys at c.in_err-known-in-Needs.ensures.grows in
    grows_on _ _ _ (work_at (sources_in s) keys c.args.key.now) i.grows (grows_wider _ _ _ _ h (next_work s (plays c.args.plan.now) c.args.key.now keys r c.loop-value.tallest M c.requires.work i.gathered c.in-Needs.asked (behind_operand c.go_on.new.self) told))

pub returns-in_err-known-in-Needs-clause-counted : goal.returns-in_err-known-in-Needs-clause-counted
returns-in_err-known-in-Needs-clause-counted g c = counted_on _ _ _ _ _ _ c.loop-value.invariant.counted c.in_err-known-in-Needs.ensures.counted

pub loop-value-preserved : goal.loop-value-preserved
loop-value-preserved g c =
    let s = c.args.evaluation.now in
    let i = c.loop-value.invariant in
    let keys = c.args.keys.now.items in
    let src = sources_in s in
    let r = behind_operand c.loop-value.progress (value_seen c.loop-value.operand) in
    let M = Remembered (g.R.Recall.find c.loop-value.store.recall) in
    let new = Remembered (g.R.Recall.find c.value_below.new.store.recall) in
    let told = c.in-Needs.ensures.stop in
    let j = c.in-Needs.asked in
    let go = behind_operand c.go_on.new.self in
    let below = c.in_ok-known-in-Needs.ensures in
    let x = c.in_ok-known-in-Needs.known in
    let known = rw i.keys at below.known in
    let grown = rw i.keys at below.grows in
    record {
      gathered = rw (c.max-tallest.ensures) (next_more s (plays c.args.plan.now) c.args.key.now keys r c.loop-value.tallest M c.requires.work i.gathered j go told x known new grown.kept below.covered);
      reading = rw (c.max-tallest.ensures) (next_reading s (plays c.args.plan.now) c.args.key.now keys r c.loop-value.tallest c.loop-value.reads c.requires.work i.reading i.read j go told x known below.read);
      read = next_read s (plays c.args.plan.now) c.args.key.now keys r c.loop-value.tallest c.loop-value.reads c.requires.work i.reading i.read j go told x known below.read;
      sound = (next_sound s (plays c.args.plan.now) c.args.key.now keys r c.loop-value.tallest M c.requires.work i.gathered j go told x known c.requires.evaluation i.sound);
      memory = below.memory;
      keys = below.keys ∙ i.keys;
      grows = grows_on _ _ _ (work_at src keys c.args.key.now) i.grows (grows_wider _ _ _ _ grown (next_work s (plays c.args.plan.now) c.args.key.now keys r c.loop-value.tallest M c.requires.work i.gathered j go told));
      apart = λ y. ⊎_elim (λ (a : M (key_seen c.args.key.now)). i.apart a)
          (λ (b : work_below src keys j (key_seen c.args.key.now)). absurd (next_apart s (plays c.args.plan.now) c.args.key.now keys r c.loop-value.tallest M c.requires.work i.gathered j go told b))
          (grown.only (key_seen c.args.key.now) y);
      counted = counted_on _ _ _ _ _ _ i.counted below.counted;
      lost = below.lost ∙ i.lost;
    }
