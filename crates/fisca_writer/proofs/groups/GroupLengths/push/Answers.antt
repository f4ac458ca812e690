use Rattle.std.proofs.Common.{◌≡◌, ◌*◌, ◌∙◌, ◌<◌, arith, ap, sym, length, length-set, take}
use Rattle.fisca_writer.specs.Odometer.{product_of}
use Rattle.fisca_writer.proofs.Places.{counts_more, counts_to, many_groups, product_more}
use Rattle.fisca_writer.proofs.groups.GroupLengths.push.Goals as goal

pub invariant_of-self : goal.invariant_of-self
invariant_of-self c =
    let g = c.self.inside in
    let counts = counts_to (take g.count g.lasts) in
    let many : length counts ≡ g.count = many_groups g.lasts g.count (omega (arith, c.self.invariant)) in
    let few : length counts < 16 = rw c.self.view_is c.requires.few in
    let size : g.size * c.args.places ≡ product_of counts * c.args.places = ap (λ n. n * c.args.places) c.self.invariant.2 in (
      omega (arith, many, few),
      length-set g.lasts g.count _ ∙ c.self.invariant.1,
      size ∙ sym (ap product_of (counts_more g.lasts g.count c.args.places (omega (arith, many, few, c.self.invariant.1)) c.requires.some) ∙ product_more counts c.args.places),
    )
