use Rattle.std.proofs.Common.{◌≡◌, arith, ap}
use Rattle.std.proofs.lemmas.Int.{ints}
use Rattle.fisca_num.specs.Number.{same_number, negation_of}
use Rattle.fisca_num.proofs.Cut.{lowest_negated, within_negated}
use Rattle.fisca_num.proofs.fractions.Fraction.neg.Goals as goal

pub invariant_of-result : goal.invariant_of-result
invariant_of-result c = (
  lowest_negated c.self.inside.numerator _ c.self.inside.denominator (omega (arith, ints)) c.self.inside.lowest,
  (within_negated c.self.inside.numerator _ c.self.inside.denominator (omega (arith, ints)) c.self.inside.within, tt),
)

pub returns : goal.returns
returns c =
    let e : c.self.inside.numerator ≡ c.args.self.numerator = ap (λ n. n.numerator) c.self.view_is in
    same_number _ (negation_of c.args.self) (omega (arith, ints)) (ap (λ n. n.denominator) c.self.view_is)
