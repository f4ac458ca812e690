use Rattle.std.proofs.Common.{None, subst}
use Rattle.fisca_evaluator.specs.Evaluators.{marks_in, simulation_of}
use Rattle.fisca_grid_run.proofs.Came.{came_same, kept_anywhere, same_file}
use Rattle.fisca_grid_run.specs.Kept.{IsKept}
use Rattle.fisca_grid_run.specs.Begun.{file_in}
use Rattle.fisca_grid_run.proofs.kept.write_kept.Goals as goal

pub returns-clause-ended : goal.returns-clause-ended
returns-clause-ended g c =
    (came_same g.R.Recall.find c.args.rows.now c.write_lines.new.rows c.args.from c.write_lines.result c.write_lines.ensures.came).ended

pub returns-clause-same_reference : goal.returns-clause-same_reference
returns-clause-same_reference g c =
    (came_same g.R.Recall.find c.args.rows.now c.write_lines.new.rows c.args.from c.write_lines.result c.write_lines.ensures.came).same.3

pub returns-clause-lacks : goal.returns-clause-lacks
returns-clause-lacks g c =
    (came_same g.R.Recall.find c.args.rows.now c.write_lines.new.rows c.args.from c.write_lines.result c.write_lines.ensures.came).lacks

pub returns-clause-same_members : goal.returns-clause-same_members
returns-clause-same_members g c =
    (came_same g.R.Recall.find c.args.rows.now c.write_lines.new.rows c.args.from c.write_lines.result c.write_lines.ensures.came).same.4

pub returns-clause-ready : goal.returns-clause-ready
returns-clause-ready g c =
    let find = g.R.Recall.find in
    let old = c.args.rows.now in
    let new = c.write_lines.new.rows in
    let e = new.evaluator.now in
    let same = (came_same find old new c.args.from c.write_lines.result c.write_lines.ensures.came).same in
    let file = file_in (simulation_of e) new.request.now in
    let kept = kept_anywhere new.rules.now file new.slots.now new.here (marks_in e) (simulation_of e) (find e.store.recall) e.store.counts.free
    c.write_lines.ensures.ready in
    subst (λ r. IsKept r (file_in (simulation_of old.evaluator.now) old.request.now) old.slots.now None (marks_in e) (simulation_of e) (find e.store.recall) e.store.counts.free) same.0
    (subst (λ f. IsKept new.rules.now f old.slots.now None (marks_in e) (simulation_of e) (find e.store.recall) e.store.counts.free) (same_file old new same)
    (subst (λ slots. IsKept new.rules.now file slots None (marks_in e) (simulation_of e) (find e.store.recall) e.store.counts.free) same.2 kept))
