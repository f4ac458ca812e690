use Rattle.std.proofs.Common.{◌≡◌, ◌+◌, ◌<◌, ◌≤◌, ◌==◌, suc, ◌∷◌, List, Err, cond, length, drop, drop-cons, option_map, ap, ◌∙◌, sym, refl, subst, arith}
use Rattle.std.proofs.Math.ListN.{drop_of_length-le}
use Rattle.fisca_params.specs.Source.{Source}
use Rattle.fisca_rule_files.specs.Ending.{IsTold}
use Rattle.fisca_rule_files.specs.Refusal.{paths_of}
use Rattle.fisca_test_file.specs.declared.all.Verdict.{Verdict}
use Rattle.fisca_writer.specs.Steps.Sink.{one_more}
use Rattle.fisca_commands.proofs.Endings.{of_tests}
use Rattle.fisca_commands.proofs.TestsPassed.{IsUnderWay, ended, further, stopped}
use Rattle.fisca_commands.proofs.many_tests.test_files.Goals as goal

pub loop-file-init : goal.loop-file-init
loop-file-init g c = ((λ new answer is. is), refl)

pub returns-in-Err-clause-answer : goal.returns-in-Err-clause-answer
returns-in-Err-clause-answer g c =
    let l = c.loop-file in
    let items = c.args.tests.now in
    let name = option_map (λ text. text.now) c.args.name in
    let old = g.S.RowSink.taken c.args.sink.now in
    let inside : l.file-index < length items = c.loop-file-test.true in
    let cut = drop-cons items l.file-index c.file-item.result inside ∙ ap (λ r. r ∷ drop (suc l.file-index) items) (sym c.file-item.is) in
    let way = subst (λ (left : List Source). IsUnderWay c.args.rules.now c.args.told_paths.now name items old left l.total (g.S.RowSink.taken l.sink)) cut l.invariant.0 in
    let told = subst (λ path. IsTold (paths_of path c.args.told_paths.now) c.in-Err.refusal c.refused.result) c.path.ensures c.refused.ensures in
    stopped c.args.rules.now c.args.told_paths.now name items old c.file-item.result (drop (suc l.file-index) items) l.total (g.S.RowSink.taken l.sink) (g.S.RowSink.taken c.test_file.new.sink) c.in-Err.refusal c.refused.result
    way c.in-Err.ensures.answer told

pub returns-in-Err-clause-failures : goal.returns-in-Err-clause-failures
returns-in-Err-clause-failures g c =
    let count = of_tests (paths_of c.path.result.now c.args.told_paths.now) (Err c.in-Err.refusal) c.refused.result (g.S.RowSink.failures c.loop-file.sink) (g.S.RowSink.failures c.test_file.new.sink) c.refused.ensures c.in-Err.ensures.failures in
    count ∙ ap (λ n. cond (c.refused.result.status == 5) (one_more n) n) c.loop-file.invariant.1

pub loop-file-preserved : goal.loop-file-preserved
loop-file-preserved g c =
    let l = c.loop-file in
    let items = c.args.tests.now in
    let name = option_map (λ text. text.now) c.args.name in
    let old = g.S.RowSink.taken c.args.sink.now in
    let inside : l.file-index < length items = c.loop-file-test.true in
    let cut = drop-cons items l.file-index c.file-item.result inside ∙ ap (λ r. r ∷ drop (suc l.file-index) items) (sym c.file-item.is) in
    let next : suc l.file-index ≡ l.file-index + 1 = omega arith in
    let way = subst (λ (left : List Source). IsUnderWay c.args.rules.now c.args.told_paths.now name items old left l.total (g.S.RowSink.taken l.sink)) cut l.invariant.0 in
    let on = further c.args.rules.now c.args.told_paths.now name items old c.file-item.result (drop (suc l.file-index) items) l.total c.in-Ok.verdict (g.S.RowSink.taken l.sink) (g.S.RowSink.taken c.test_file.new.sink)
    way c.in-Ok.ensures.answer in (
      subst (λ n. IsUnderWay c.args.rules.now c.args.told_paths.now name items old (drop n items) c.added-total.result (g.S.RowSink.taken c.test_file.new.sink)) next
          (subst (λ (total : Verdict). IsUnderWay c.args.rules.now c.args.told_paths.now name items old (drop (suc l.file-index) items) total (g.S.RowSink.taken c.test_file.new.sink)) (sym c.added-total.ensures) on),
      c.in-Ok.ensures.failures ∙ l.invariant.1,
    )

pub returns-clause-answer : goal.returns-clause-answer
returns-clause-answer g c =
    let l = c.loop-file in
    let items = c.args.tests.now in
    let name = option_map (λ text. text.now) c.args.name in
    let old = g.S.RowSink.taken c.args.sink.now in
    let all : length items ≤ l.file-index = omega (arith, c.loop-file-test.false) in
    ended c.args.rules.now c.args.told_paths.now name items old l.total (g.S.RowSink.taken l.sink)
    (subst (λ (left : List Source). IsUnderWay c.args.rules.now c.args.told_paths.now name items old left l.total (g.S.RowSink.taken l.sink)) (drop_of_length-le items all) l.invariant.0)

pub returns-clause-failures : goal.returns-clause-failures
returns-clause-failures g c = c.loop-file.invariant.1
