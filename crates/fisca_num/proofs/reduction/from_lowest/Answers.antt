use Rattle.std.proofs.Common.{◌≡◌, ◌∙◌, arith, w64, to_z, of_z, Ok}
use Rattle.std.proofs.lemmas.Int.{ints}
use Rattle.fisca_num.specs.Operations.{only_number_of}
use Rattle.fisca_num.specs.Rational.{signed}
use Rattle.fisca_num.proofs.Cut.{beyond, within_of, reduces_as}
use Rattle.fisca_num.proofs.reduction.from_lowest.Goals as goal
use Rattle.fisca_num.proofs.reduction.from_lowest.Goals.{then-size-gt-LIMIT-via-then-size-gt-LIMIT, then-size-gt-LIMIT-via-else-size-gt-LIMIT+then-denominator-gt-LIMIT}

pub returns-then-size-gt-LIMIT : goal.returns-then-size-gt-LIMIT
returns-then-size-gt-LIMIT c = beyond _ _ _ c.requires (λ p q.
    elim c.then-size-gt-LIMIT.branch [
      | then-size-gt-LIMIT-via-then-size-gt-LIMIT w ↦ omega (arith, w.if-size-gt-LIMIT)
      | then-size-gt-LIMIT-via-else-size-gt-LIMIT+then-denominator-gt-LIMIT w ↦ omega (arith, w.if-denominator-gt-LIMIT)
    ])

pub invariant_of-result : goal.invariant_of-result
invariant_of-result c =
    let same : to_z w64 (of_z w64 c.with_sign-numerator.result) ≡ signed c.args.negative c.args.size = let e : to_z w64 (of_z w64 c.with_sign-numerator.result) ≡ c.with_sign-numerator.result = omega (arith, ints) in e ∙ c.with_sign-numerator.ensures in
    (rw same c.requires, (within_of _ _ _ _ same (omega arith) (omega arith), tt))

pub returns : goal.returns
returns c =
    let same : to_z w64 (of_z w64 c.with_sign-numerator.result) ≡ signed c.args.negative c.args.size = let e : to_z w64 (of_z w64 c.with_sign-numerator.result) ≡ c.with_sign-numerator.result = omega (arith, ints) in e ∙ c.with_sign-numerator.ensures in
    only_number_of _ (Ok _) (reduces_as _ _ _ _ same c.requires)
