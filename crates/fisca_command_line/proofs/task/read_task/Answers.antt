use Rattle.std.proofs.Common.{inl, inr, refl, rules}
use Rattle.std.proofs.lemmas.Result.{IfOk-weaker, err_from_is_err_and}
use Rattle.clap.specs.Kinds.{HasKind}
use Rattle.fisca_command_line.proofs.Commands.{met, no_other}
use Rattle.fisca_command_line.proofs.Parses.{fault_known, no_fault, told_by_clap, unused, used, words_of}
use Rattle.fisca_command_line.proofs.task.read_task.Goals as goal

pub returns-in-Some-check-default-clause-fault : goal.returns-in-Some-check-default-clause-fault
returns-in-Some-check-default-clause-fault c =
    let w = c.in-Some-check-default in
    unused (words_of c.args.words.now) _ _ _ (no_fault _ _ c.in_ok-command.ensures.app c.in_ok-matches.ensures.kinds) (met _ _ _ _ _ c.in_ok-command.ensures.app c.in_ok-matches.ensures.matches w.ensures.name w.ensures.rows) w.is-check refl

pub returns-in-Some-test-default-clause-fault : goal.returns-in-Some-test-default-clause-fault
returns-in-Some-test-default-clause-fault c =
    let w = c.in-Some-test-default in
    unused (words_of c.args.words.now) _ _ _ (no_fault _ _ c.in_ok-command.ensures.app c.in_ok-matches.ensures.kinds) (met _ _ _ _ _ c.in_ok-command.ensures.app c.in_ok-matches.ensures.matches w.ensures.name w.ensures.rows) w.is-test refl

pub returns-in-Some-size-default-clause-fault : goal.returns-in-Some-size-default-clause-fault
returns-in-Some-size-default-clause-fault c =
    let w = c.in-Some-size-default in
    unused (words_of c.args.words.now) _ _ _ (no_fault _ _ c.in_ok-command.ensures.app c.in_ok-matches.ensures.kinds) (met _ _ _ _ _ c.in_ok-command.ensures.app c.in_ok-matches.ensures.matches w.ensures.name w.ensures.rows) w.is-size refl

pub returns-in-Some-calc-default-clause-fault : goal.returns-in-Some-calc-default-clause-fault
returns-in-Some-calc-default-clause-fault c =
    let w = c.in-Some-calc-default in
    used (words_of c.args.words.now) _ _ _ _ (no_fault _ _ c.in_ok-command.ensures.app c.in_ok-matches.ensures.kinds) (met _ _ _ _ _ c.in_ok-command.ensures.app c.in_ok-matches.ensures.matches w.ensures.name w.ensures.rows) w.is-calc c.used_calc.ensures.fault

pub returns-in-Some-run-default-clause-fault : goal.returns-in-Some-run-default-clause-fault
returns-in-Some-run-default-clause-fault c =
    let w = c.in-Some-run-default in
    used (words_of c.args.words.now) _ _ _ _ (no_fault _ _ c.in_ok-command.ensures.app c.in_ok-matches.ensures.kinds) (met _ _ _ _ _ c.in_ok-command.ensures.app c.in_ok-matches.ensures.matches w.ensures.name w.ensures.rows) w.is-run c.used_run.ensures.fault

pub returns-in-Some-list-default-clause-fault : goal.returns-in-Some-list-default-clause-fault
returns-in-Some-list-default-clause-fault c =
    let w = c.in-Some-list-default in
    used (words_of c.args.words.now) _ _ _ _ (no_fault _ _ c.in_ok-command.ensures.app c.in_ok-matches.ensures.kinds) (met _ _ _ _ _ c.in_ok-command.ensures.app c.in_ok-matches.ensures.matches w.ensures.name w.ensures.rows) w.is-list c.used_list.ensures.fault

pub returns-in-Some-explain-default-clause-fault : goal.returns-in-Some-explain-default-clause-fault
returns-in-Some-explain-default-clause-fault c =
    let w = c.in-Some-explain-default in
    used (words_of c.args.words.now) _ _ _ _ (no_fault _ _ c.in_ok-command.ensures.app c.in_ok-matches.ensures.kinds) (met _ _ _ _ _ c.in_ok-command.ensures.app c.in_ok-matches.ensures.matches w.ensures.name w.ensures.rows) w.is-explain c.used_explain.ensures.fault

pub returns-in-Some-axes-default-clause-fault : goal.returns-in-Some-axes-default-clause-fault
returns-in-Some-axes-default-clause-fault c =
    let w = c.in-Some-axes-default in
    used (words_of c.args.words.now) _ _ _ _ (no_fault _ _ c.in_ok-command.ensures.app c.in_ok-matches.ensures.kinds) (met _ _ _ _ _ c.in_ok-command.ensures.app c.in_ok-matches.ensures.matches w.ensures.name w.ensures.rows) w.is-axes c.used_axes.ensures.fault

pub unreachable-requires : goal.unreachable-requires
unreachable-requires c =
    let parse = c.in_ok-matches.ensures in
    no_other _ _ _ _ c.in_ok-command.ensures.app parse.kinds parse.matches c.in-Some.ensures.name (search rules) (search rules) (search rules) (search rules) (search rules) (search rules) (search rules) (search rules)

pub returns-in_err-matches-clause-fault : goal.returns-in_err-matches-clause-fault
returns-in_err-matches-clause-fault c =
    let p = err_from_is_err_and c.from_residual-in_err-matches.result c.from_residual-in_err-matches.ensures.1 in
    let known = fault_known (λ kinds. HasKind kinds c.in_err-matches.field-0.0) _ (words_of c.args.words.now) c.in_ok-command.ensures.app c.in_err-matches.ensures.kinds in
    rw (p.1, p.2) (told_by_clap (words_of c.args.words.now) c.in_err-matches.field-0.0 known)

pub returns-in-Some-check-default-clause-work : goal.returns-in-Some-check-default-clause-work
returns-in-Some-check-default-clause-work c =
    let w = c.in-Some-check-default in
    rw (met _ _ _ _ _ c.in_ok-command.ensures.app c.in_ok-matches.ensures.matches w.ensures.name w.ensures.rows) (inl (w.is-check, c.in_ok-check_task-in-Some-check-default.ensures))

pub returns-in-Some-calc-default-clause-work : goal.returns-in-Some-calc-default-clause-work
returns-in-Some-calc-default-clause-work c =
    let w = c.in-Some-calc-default in
    rw (met _ _ _ _ _ c.in_ok-command.ensures.app c.in_ok-matches.ensures.matches w.ensures.name w.ensures.rows) (IfOk-weaker c.used_calc.result _ _ (λ work h. inr (inl (w.is-calc, h))) c.used_calc.ensures.work)

pub returns-in-Some-test-default-clause-work : goal.returns-in-Some-test-default-clause-work
returns-in-Some-test-default-clause-work c =
    let w = c.in-Some-test-default in
    rw (met _ _ _ _ _ c.in_ok-command.ensures.app c.in_ok-matches.ensures.matches w.ensures.name w.ensures.rows) (inr (inr (inl (w.is-test, c.in_ok-tests_task-in-Some-test-default.ensures))))

pub returns-in-Some-run-default-clause-work : goal.returns-in-Some-run-default-clause-work
returns-in-Some-run-default-clause-work c =
    let w = c.in-Some-run-default in
    rw (met _ _ _ _ _ c.in_ok-command.ensures.app c.in_ok-matches.ensures.matches w.ensures.name w.ensures.rows) (IfOk-weaker c.used_run.result _ _ (λ work h. inr (inr (inr (inl (w.is-run, h))))) c.used_run.ensures.work)

pub returns-in-Some-size-default-clause-work : goal.returns-in-Some-size-default-clause-work
returns-in-Some-size-default-clause-work c =
    let w = c.in-Some-size-default in
    rw (met _ _ _ _ _ c.in_ok-command.ensures.app c.in_ok-matches.ensures.matches w.ensures.name w.ensures.rows) (inr (inr (inr (inr (inl (w.is-size, c.in_ok-size_task-in-Some-size-default.ensures))))))

pub returns-in-Some-list-default-clause-work : goal.returns-in-Some-list-default-clause-work
returns-in-Some-list-default-clause-work c =
    let w = c.in-Some-list-default in
    rw (met _ _ _ _ _ c.in_ok-command.ensures.app c.in_ok-matches.ensures.matches w.ensures.name w.ensures.rows) (IfOk-weaker c.used_list.result _ _ (λ work h. inr (inr (inr (inr (inr (inl (w.is-list, h))))))) c.used_list.ensures.work)

pub returns-in-Some-explain-default-clause-work : goal.returns-in-Some-explain-default-clause-work
returns-in-Some-explain-default-clause-work c =
    let w = c.in-Some-explain-default in
    rw (met _ _ _ _ _ c.in_ok-command.ensures.app c.in_ok-matches.ensures.matches w.ensures.name w.ensures.rows) (IfOk-weaker c.used_explain.result _ _ (λ work h. inr (inr (inr (inr (inr (inr (inl (w.is-explain, h)))))))) c.used_explain.ensures.work)

pub returns-in-Some-axes-default-clause-work : goal.returns-in-Some-axes-default-clause-work
returns-in-Some-axes-default-clause-work c =
    let w = c.in-Some-axes-default in
    rw (met _ _ _ _ _ c.in_ok-command.ensures.app c.in_ok-matches.ensures.matches w.ensures.name w.ensures.rows) (IfOk-weaker c.used_axes.result _ _ (λ work h. inr (inr (inr (inr (inr (inr (inr (w.is-axes, h)))))))) c.used_axes.ensures.work)
