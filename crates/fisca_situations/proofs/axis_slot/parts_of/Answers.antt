use Rattle.std.proofs.Common.{◌++◌, ◌∷◌, [], sym, ap, ◌∙◌}
use Rattle.fisca_time.specs.Period.{subs}
use Rattle.fisca_situations.proofs.Taken.{next_taken}
use Rattle.fisca_situations.proofs.axis_slot.parts_of.Goals as goal

pub loop-i-preserved : goal.loop-i-preserved
loop-i-preserved c =
    c.in_ok-push_period.ensures
    ∙ (ap (λ ps. ps ++ c.sub.result ∷ []) c.loop-i.invariant ∙ sym (next_taken (subs c.args.period c.args.unit) c.loop-i.i c.sub.result c.sub.ensures))
