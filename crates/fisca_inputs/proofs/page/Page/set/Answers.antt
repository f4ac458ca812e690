use Rattle.std.proofs.Common.{◌-◌, ◌∙◌, ap, arith, if◌then◌else◌}
use Rattle.std.specs.Prelude.{◌==◌}
use Rattle.fisca_inputs.specs.Places.{number_at}
use Rattle.fisca_inputs.proofs.Pages.{behind_set}
use Rattle.fisca_inputs.proofs.page.Page.set.Goals as goal

pub returns-else-place-lt-FIRST : goal.returns-else-place-lt-FIRST
returns-else-place-lt-FIRST c m =
    let p = c.self.inside in
    behind_set p.first p.more.items c.set_number.new.numbers.items (c.args.place - 4) c.args.place c.args.number (omega (arith, c.self.invariant, c.if-place-lt-FIRST.false)) c.set_number.ensures m
    ∙ ap (λ ns. if m == c.args.place then c.args.number else number_at ns m) c.self.view_is
