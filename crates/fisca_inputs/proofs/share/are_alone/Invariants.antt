use Rattle.std.proofs.Common.{◌≡◌, drop, nat_lt}
use Rattle.std.specs.List.{list_all}
use Rattle.fisca_inputs.proofs.share.are_alone.Given as goal

abbrev pub invariant-loop-count : goal.invariant-loop-count
invariant-loop-count l = list_all (λ c. nat_lt c 2) l.counts ≡ list_all (λ c. nat_lt c 2) (drop l.count-index l.counts)
