use Rattle.std.proofs.Common.{◌≡◌, ◌∙◌, ◌^◌, min}
use Rattle.fisca_num.proofs.Fives.{IsFreed, without_twos, without_five, freed_lowest, freed_number}
use Rattle.fisca_num.proofs.reduction.reduce_tens.Goals as goal
use Rattle.fisca_num.proofs.reduction.reduce_tens.Goals.{then-loop-left-test+else-under-eq0, else-loop-left-test}

pub loop-left-init : goal.loop-left-init
loop-left-init c =
    let least : c.min-twos.result ≡ min c.halvings.result c.args.places = c.min-twos.ensures in
    rw (least, c.requires.tens) (without_twos c.args.size c.halvings.result c.args.places c.halvings.ensures)

pub loop-left-preserved : goal.loop-left-preserved
loop-left-preserved c = without_five _ _ _ _ c.loop-left-test.true c.if-under-eq0.true c.loop-left.invariant

pub from_lowest-requires : goal.from_lowest-requires
from_lowest-requires c =
    let freed : IsFreed c.args.size (10 ^ c.args.places) c.loop-left.left c.loop-left.under = rw c.requires.tens at c.loop-left.invariant in
    rw (c.from.ensures, c.from-2.ensures) (freed_lowest c.args.negative c.args.size c.args.places c.loop-left.left c.loop-left.under freed (λ p q. elim c.loop-left-test.branch [
      | then-loop-left-test+else-under-eq0 w ↦ w.if-under-eq0.false q
      | else-loop-left-test w ↦ w.loop-left-test.false p
    ]))

pub returns : goal.returns
returns c =
    let freed : IsFreed c.args.size (10 ^ c.args.places) c.loop-left.left c.loop-left.under = rw c.requires.tens at c.loop-left.invariant in
    (rw (c.from.ensures, c.from-2.ensures) at c.from_lowest.ensures) ∙ rw c.requires.tens (freed_number c.args.negative c.args.size c.args.places c.loop-left.left c.loop-left.under freed)
