use Rattle.std.proofs.Common.{rules, ◌≡◌, true, sym, ◌∙◌, arith}
use Rattle.fisca_scales.specs.Dates.{is_in_order}
use Rattle.fisca_scales.proofs.Latest.{upper-half, lower-half, first-not, latest-between}
use Rattle.fisca_scales.proofs.dates.Dates.latest.Goals.{then-is_reached-2, else-is_reached-2}
use Rattle.fisca_scales.proofs.dates.Dates.latest.Goals as goal

pub returns-in_default : goal.returns-in_default
returns-in_default g c =
    let order : is_in_order c.self.inside.items.items ≡ true = search (rules, c.self.invariant) in
    let item = rw c.deref.ensures.value at c.in-Some.ensures.item in
    rw (← c.self.view_is) (first-not c.args.instant c.self.inside.items.items c.in-Some.first.now order item.3.0 item.1 (sym c.is_reached.ensures ∙ c.if-is_reached.false))

pub halves-preserved : goal.halves-preserved
halves-preserved g c =
    let ds = c.self.inside.items.items in
    let order : is_in_order ds ≡ true = search (rules, c.self.invariant) in
    let inv = rw (← c.self.view_is) at c.halves.invariant in
    elim c.if-is_reached-2.branch [
      | then-is_reached-2 w ↦ rw (← c.self.view_is) (upper-half c.args.instant ds c.halves.place c.halves.size c.if-is_reached-2.step c.index.result.now inv (omega (arith, c.halves-test.true)) w.step-is c.index.ensures (sym c.is_reached-in-halves.ensures ∙ w.if-is_reached-2.true))
      | else-is_reached-2 w ↦ rw (← c.self.view_is) (lower-half c.args.instant ds c.halves.place c.halves.size c.if-is_reached-2.step c.index.result.now order inv (omega (arith, c.halves-test.true)) w.step-is c.index.ensures (sym c.is_reached-in-halves.ensures ∙ w.if-is_reached-2.false))
    ]

pub returns : goal.returns
returns g c =
    let ds = c.self.inside.items.items in
    let order : is_in_order ds ≡ true = search (rules, c.self.invariant) in
    let inv = rw (← c.self.view_is) at c.halves.invariant in
    rw (← c.self.view_is) (latest-between c.args.instant ds c.halves.place c.halves.size c.in-Some.first.now order inv (omega (arith, c.halves-test.false)))
