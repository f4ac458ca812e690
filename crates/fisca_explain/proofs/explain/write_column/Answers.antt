use Rattle.std.proofs.Common.{◌≡◌, ◌∙◌, [], ap, subst, sym, option_map}
use Rattle.std.proofs.lemmas.Result.{on_ok_weaker}
use Rattle.fisca_evaluator.specs.Evaluators.{simulation_of}
use Rattle.fisca_memo_theory.specs.Entries.{Remembered}
use Rattle.fisca_memo_theory.specs.Memory.{IsTrueMemory}
use Rattle.fisca_model.specs.Seen.{key_seen}
use Rattle.fisca_rules.specs.Views.{rule_set}
use Rattle.fisca_simulation.specs.Simulations.{normal_key, sources}
use Rattle.fisca_situations.specs.Steps.Views.{situation}
use Rattle.fisca_symbols.specs.Known.{tables as known}
use Rattle.fisca_explain.specs.Columns.{levels_of}
use Rattle.fisca_explain.proofs.Bridging.{walk_same}
use Rattle.fisca_explain.proofs.ColumnsTold.{column_done, column_same, levels_low}
use Rattle.fisca_explain.proofs.Defined.{simulation}
use Rattle.fisca_explain.proofs.explain.write_column.Goals as goal

pub explain-requires : goal.explain-requires
explain-requires g c =
    let v = c.args.view.now in
    let e = c.args.evaluator.now in
    let s = situation c.situation.result.now in
    let same : simulation v.rules.now s [] ≡ simulation_of e = ap (λ x. simulation v.rules.now x []) c.situation.ensures ∙ sym c.requires.view in
    record { walk = walk_same g.R.Recall.find (simulation v.rules.now s []) (simulation_of e) c.recall.result.now e.store.recall same c.recall.ensures c.requires.walk }

pub returns-clause-lines : goal.returns-clause-lines
returns-clause-lines g c =
    let v = c.args.view.now in
    let e = c.args.evaluator.now in
    let k = key_seen c.args.key.now in
    let s = situation c.situation.result.now in
    let find = g.R.Recall.find in
    let entries = find c.recall.result.now in
    let same : simulation v.rules.now s [] ≡ simulation_of e = ap (λ x. simulation v.rules.now x []) c.situation.ensures ∙ sym c.requires.view in
    let truth : IsTrueMemory (sources (simulation_of e)) entries = subst (λ x. IsTrueMemory (sources (simulation_of e)) (find x)) (sym c.recall.ensures) c.requires.walk.truth in
    on_ok_weaker c.explain.result
    (λ told before just.
    column_done _ _ (option_map (λ form. form.now) v.form) _ _ (g.S.RowSink.taken c.args.sink.now) (g.S.RowSink.taken c.explain.new.sink) c.explain.new.followed
    (ap (λ x. record { tables = known v.rules.now.tables; members = x.situation.members; fault = c.args.fault.now }) same)
    (column_same v.rules.now s (simulation_of e) same entries truth (levels_of v.depth) (levels_low v.depth) (key_seen c.own_key-own.result) k
    (c.own_key-own.ensures ∙ ap (λ x. normal_key x.rules k) same)
    (λ j w. subst (λ x. Remembered (find x) j) (sym c.recall.ensures) (c.requires.work j w)) before)
    (told before just)) c.explain.ensures.lines
