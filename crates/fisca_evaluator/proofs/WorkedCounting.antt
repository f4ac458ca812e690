-- Worked equations: how counts rise, and what is lost.
use Rattle.std.proofs.Common.{◌≡◌, refl}
use Rattle.fisca_evaluator.specs.Counted.{no_counts, with_kept, with_lost}
use Rattle.fisca_evaluator.specs.Counting.{raised}

nothing_more : raised 7 0 ≡ 7
nothing_more = refl

three_more : raised 7 3 ≡ 10
three_more = refl

two_kept : raised no_counts.free 2 ≡ (with_kept 0 (with_kept 0 no_counts)).free
two_kept = refl

one_bound : raised no_counts.bound 1 ≡ (with_kept 4 (with_kept 0 no_counts)).bound
one_bound = refl

one_lost : (with_lost no_counts).lost ≡ 1
one_lost = refl
