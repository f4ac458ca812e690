use Rattle.std.proofs.Common.{◌≡◌, suc, ◌+◌, ◌++◌, ◌∷◌, drop, drop-cons, get_or, add-one, append_assoc, sym, ap₂, ◌∙◌, arith}
use Rattle.fisca_run_file.specs.Groups.{so_many}
use Rattle.fisca_run_file.specs.Steps.Groups.{wheels_by}
use Rattle.fisca_run_file.proofs.slots.wheels_by.Goals as goal

pub loop-length-preserved : goal.loop-length-preserved
loop-length-preserved c =
    let lengths = c.args.lengths.now in
    let i = c.loop-length.length-index in
    let n = get_or lengths i 0 in
    let wheel = c.loop-length.wheel in
    let later = drop (i + 1) lengths in
    let cut : drop i lengths ≡ n ∷ later = rw add-one (drop-cons lengths i 0 c.loop-length-test.true) in
    let same = rw cut at c.loop-length.invariant.same in
    let next : suc wheel ≡ wheel + 1 = omega arith in
    record {
      count = omega (arith, c.loop-length.invariant.count);
      same =
          same ∙ (sym (append_assoc c.loop-length.wheels.items (so_many n wheel) (wheels_by (suc wheel) later))
          ∙ ap₂ (λ ws w. ws ++ wheels_by w later) (sym c.in_ok-push_wheels.ensures) next);
    }
