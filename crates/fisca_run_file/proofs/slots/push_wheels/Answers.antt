use Rattle.std.proofs.Common.{◌++◌, ◌∷◌, [], append_assoc, sym, ap, ◌∙◌}
use Rattle.fisca_run_file.specs.Groups.{so_many}
use Rattle.fisca_run_file.proofs.Grouped.{once_more}
use Rattle.fisca_run_file.proofs.slots.push_wheels.Goals as goal

pub loop-time-preserved : goal.loop-time-preserved
loop-time-preserved c =
    let old = c.args.wheels.now.items in
    let wheel = c.args.wheel in
    c.in_ok-push_wheel.ensures
    ∙ (ap (λ ws. ws ++ wheel ∷ []) c.loop-time.invariant
    ∙ (append_assoc old (so_many c.loop-time._time wheel) (wheel ∷ []) ∙ ap (λ ws. old ++ ws) (sym (once_more c.loop-time._time wheel))))
