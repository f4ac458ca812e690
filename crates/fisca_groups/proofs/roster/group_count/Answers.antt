use Rattle.std.proofs.Common.{arith}
use Rattle.fisca_groups.proofs.RosterLemmas.{none_behind}
use Rattle.fisca_groups.proofs.roster.group_count.Goals as goal

pub loop-home-preserved : goal.loop-home-preserved
loop-home-preserved c = λ g h.
    none_behind g c.loop-home.home-index c.args.homes.now _ _ c.loop-home-test.true (c.count_with-count.ensures.none g h)
    (c.loop-home.invariant g (omega (arith, h, c.count_with-count.ensures.more)))
