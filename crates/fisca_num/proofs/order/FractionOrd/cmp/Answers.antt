use Rattle.std.proofs.Common.{◌≡◌, ◌∙◌, ap, sym}
use Rattle.fisca_num.proofs.Compared.{like_cmp}
use Rattle.fisca_num.proofs.order.FractionOrd.cmp.Goals as goal

pub returns-then-self-other : goal.returns-then-self-other
returns-then-self-other c =
    let a : c.self.inside.numerator ≡ c.args.self.now.numerator = ap (λ x. x.numerator) c.self.view_is in
    let b : c.other.inside.numerator ≡ c.args.other.now.numerator = ap (λ x. x.numerator) c.other.view_is in
    let d : c.args.self.now.denominator ≡ c.args.other.now.denominator = sym (ap (λ x. x.denominator) c.self.view_is) ∙ c.if-self-other.true ∙ ap (λ x. x.denominator) c.other.view_is in
    (rw (a, b) at c.cmp.ensures) ∙ like_cmp c.args.self.now c.args.other.now d
