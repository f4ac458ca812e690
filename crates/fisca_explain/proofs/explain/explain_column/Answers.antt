use Rattle.fisca_evaluator.specs.Evaluators.{simulation_of}
use Rattle.fisca_model.specs.Seen.{key_seen}
use Rattle.fisca_model.specs.declared.eval_fault.EvalFault.TheVariants.{Memory}
use Rattle.fisca_rules.specs.Views.{rule_set}
use Rattle.fisca_explain.proofs.AfterValue.{can_after, fault_same, told_after, view_after, work_after}
use Rattle.fisca_explain.proofs.explain.explain_column.Goals as goal

pub write_column-requires : goal.write_column-requires
write_column-requires g c =
    let m = simulation_of c.args.evaluator.now in
    let n = simulation_of c.value.new.self in
    let entries = g.R.Recall.find c.value.new.self.store.recall in
    record {
      walk = can_after n m c.in-Ok.ensures.same entries c.requires.ready.ready c.in-Ok.ensures.memory.truth;
      view = view_after n m c.in-Ok.ensures.same (rule_set c.args.view.now.rules.now) c.requires.view;
      work = work_after n m c.in-Ok.ensures.same entries (key_seen c.args.key.now) (c.in-Ok.ensures.work (λ is. cc));
    }

pub write_column-requires-in_default : goal.write_column-requires-in_default
write_column-requires-in_default g c =
    let m = simulation_of c.args.evaluator.now in
    let n = simulation_of c.value.new.self in
    let entries = g.R.Recall.find c.value.new.self.store.recall in
    record {
      walk = can_after n m c.in-Err.ensures.same entries c.requires.ready.ready c.in-Err.ensures.memory.truth;
      view = view_after n m c.in-Err.ensures.same (rule_set c.args.view.now.rules.now) c.requires.view;
      work = work_after n m c.in-Err.ensures.same entries (key_seen c.args.key.now) (c.in-Err.ensures.work (λ is. c.in_default.not-Memory (fault_same _ _ is)));
    }

pub returns-in_ok-write_column-in-Ok-clause-lines : goal.returns-in_ok-write_column-in-Ok-clause-lines
returns-in_ok-write_column-in-Ok-clause-lines g c before just =
    told_after (simulation_of c.value.new.self) (simulation_of c.args.evaluator.now) c.in-Ok.ensures.same c.args.view.now Memory before (key_seen c.args.key.now)
    (g.S.RowSink.taken c.args.sink.now) (g.S.RowSink.taken c.write_column.new.sink) c.write_column.new.followed (c.in_ok-write_column-in-Ok.ensures.lines before just)
