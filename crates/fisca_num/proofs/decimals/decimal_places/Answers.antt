use Rattle.std.proofs.Common.{◌≡◌, arith, max}
use Rattle.fisca_num.proofs.Powers.{less_two, less_five, odd_fifth, few_twos, few_fives, least_of, not_covered}
use Rattle.fisca_num.proofs.decimals.decimal_places.Goals as goal

pub overflow_add-twos : goal.overflow_add-twos
overflow_add-twos c = let few = few_twos _ _ _ _ c.twos.invariant c.requires.below in omega arith

pub twos-preserved : goal.twos-preserved
twos-preserved c = less_two _ _ _ _ c.twos.invariant c.twos-test.true

pub overflow_add-fives : goal.overflow_add-fives
overflow_add-fives c = let few = few_fives _ _ _ _ c.fives.invariant.0 c.requires.below in omega arith

pub fives-preserved : goal.fives-preserved
fives-preserved c = (less_five _ _ _ _ c.fives.invariant.0 c.fives-test.true, odd_fifth _ c.fives-test.true c.fives.invariant.1)

pub returns-then-rest-eq1 : goal.returns-then-rest-eq1
returns-then-rest-eq1 c =
    let twos = few_twos _ _ _ _ c.fives.invariant.0 c.requires.below in
    let fives = few_fives _ _ _ _ c.fives.invariant.0 c.requires.below in
    let same : c.max.result ≡ max c.twos.twos c.fives.fives = omega (arith, c.max.ensures) in
    (rw same (least_of _ _ _ _ c.fives.invariant.0 c.if-rest-eq1.true), omega arith)

pub returns-else-rest-eq1 : goal.returns-else-rest-eq1
returns-else-rest-eq1 c = not_covered _ _ _ _ c.fives.invariant.0 c.fives.invariant.1 c.fives-test.false c.if-rest-eq1.false
