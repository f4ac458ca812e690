use Rattle.std.proofs.Common.{◌-◌, ◌∙◌, ap, arith, if◌then◌else◌}
use Rattle.std.specs.Prelude.{◌==◌}
use Rattle.std.proofs.lemmas.Result.{on_err_weaker, on_ok_weaker}
use Rattle.fisca_inputs.specs.Places.{number_at}
use Rattle.fisca_inputs.proofs.Pages.{behind_like, behind_set}
use Rattle.fisca_inputs.proofs.page.Page.put.Goals as goal

pub returns-clause-ok : goal.returns-clause-ok
returns-clause-ok c =
    let p = c.self.inside in
    on_ok_weaker c.put_number.result
    (λ set m. behind_set p.first p.more.items c.put_number.new.numbers.items (c.args.place - 4) c.args.place c.args.number (omega (arith, c.self.invariant, c.if-place-lt-FIRST.false)) set m
    ∙ ap (λ ns. if m == c.args.place then c.args.number else number_at ns m) c.self.view_is)
    c.put_number.ensures.ok

pub returns-clause-err : goal.returns-clause-err
returns-clause-err c =
    let p = c.self.inside in
    on_err_weaker c.put_number.result
    (λ like m. behind_like p.first p.more.items c.put_number.new.numbers.items like m ∙ ap (λ ns. number_at ns m) c.self.view_is)
    c.put_number.ensures.err
