use Rattle.std.proofs.Common.{◌≡◌, ◌∙◌, ◌+ℤ◌, arith, ap, sym, to_z, of_z, w64}
use Rattle.std.proofs.lemmas.Int.{ints}
use Rattle.fisca_num.specs.Number.{lowest-whole}
use Rattle.fisca_num.proofs.Cut.{outside}
use Rattle.fisca_num.proofs.Sums.{like_number}
use Rattle.fisca_num.proofs.fractions.Fraction.add_whole.Goals as goal

pub returns-in-Some : goal.returns-in-Some
returns-in-Some c =
    let n : c.self.inside.numerator ≡ c.args.self.numerator = ap (λ x. x.numerator) c.self.view_is in
    let m : c.other.inside.numerator ≡ c.args.other.numerator = ap (λ x. x.numerator) c.other.view_is in
    let d : 1 ≡ c.args.self.denominator = sym c.requires.left in
    let same : to_z w64 (of_z w64 c.in-Some.sum) ≡ c.self.inside.numerator +ℤ c.other.inside.numerator = omega (arith, ints, c.in-Some.ensures.0, c.in-Some.ensures.1) in
    (rw (same, n, m, d) at c.from_word.ensures) ∙ like_number c.args.self c.args.other c.requires.like

pub returns-in-None : goal.returns-in-None
returns-in-None c =
    let n : c.self.inside.numerator ≡ c.args.self.numerator = ap (λ x. x.numerator) c.self.view_is in
    let m : c.other.inside.numerator ≡ c.args.other.numerator = ap (λ x. x.numerator) c.other.view_is in
    let d : 1 ≡ c.args.self.denominator = sym c.requires.left in
    (rw (n, m, d) at (outside (record { numerator = c.self.inside.numerator +ℤ c.other.inside.numerator; denominator = 1 }) (lowest-whole _) (λ p q. c.in-None.ensures (omega (arith, ints, p)))))
    ∙ like_number c.args.self c.args.other c.requires.like
