use Rattle.std.proofs.Common.{◌≡◌, arith, lit<, to_z, of_z, w64, Ok}
use Rattle.std.proofs.lemmas.Int.{ints}
use Rattle.fisca_num.specs.Number.{lowest-whole}
use Rattle.fisca_num.specs.Operations.{only_number_of}
use Rattle.fisca_num.proofs.Cut.{outside, reduces_whole}
use Rattle.fisca_num.proofs.reduction.from_word.Goals as goal

pub returns-then-number-lt-LEAST : goal.returns-then-number-lt-LEAST
returns-then-number-lt-LEAST c = outside _ (lowest-whole _) (λ p q. omega (arith, ints, p, c.if-number-lt-LEAST.true))

pub invariant_of-result : goal.invariant_of-result
invariant_of-result c =
    let same : to_z w64 (of_z w64 c.args.number) ≡ c.args.number = omega (arith, ints) in
    (lowest-whole _, (rw same (record { above = omega (arith, ints); below = lit< tt }), tt))

pub returns : goal.returns
returns c =
    let same : to_z w64 (of_z w64 c.args.number) ≡ c.args.number = omega (arith, ints) in
    only_number_of _ (Ok _) (reduces_whole _ _ same)
