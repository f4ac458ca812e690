use Rattle.std.proofs.Common.{[], ◌<◌, length, sym, arith}
use Rattle.std.specs.Str.{bytes_eq}
use Rattle.fisca_expected.proofs.Places.{found_at, not_found_at}
use Rattle.fisca_expected.proofs.members.place_among.Goals as goal

pub returns-then-is_at : goal.returns-then-is_at
returns-then-is_at c =
    let at = c.loop-place.place in
    let within : at < length c.args.names.now = omega arith in
    sym (found_at (λ k. bytes_eq k c.args.name.now) c.args.names.now at [] c.is_at.result _ c.loop-place.invariant within c.is_at.ensures c.if-is_at.true)

pub loop-place-preserved : goal.loop-place-preserved
loop-place-preserved c =
    let at = c.loop-place.place in
    let within : at < length c.args.names.now = omega arith in
    not_found_at (λ k. bytes_eq k c.args.name.now) c.args.names.now at [] c.is_at.result _ c.loop-place.invariant within c.is_at.ensures c.if-is_at.false
