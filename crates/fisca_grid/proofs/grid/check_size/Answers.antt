use Rattle.std.proofs.Common.{◌≡◌, ◌∷◌, ◌+◌, ◌-◌, ◌^◌, drop, drop-cons, add-one, get_or}
use Rattle.fisca_grid.proofs.Groups.{left_grouped, left_alike, left_size}
use Rattle.fisca_grid.proofs.grid.check_size.Goals as goal

pub loop-length-preserved : goal.loop-length-preserved
loop-length-preserved c =
    let lengths = c.args.groups.now in
    let rest = c.loop-length.rest.now in
    let i = c.loop-length.length-index in
    let n = get_or lengths i 0 in
    let later = drop (i + 1) lengths in
    let cut : drop i lengths ≡ n ∷ later = rw add-one (drop-cons lengths i 0 c.loop-length-test.true) in
    let grouped = rw cut at c.loop-length.invariant.grouped in
    let alike = rw cut at c.loop-length.invariant.alike in
    let size = rw cut at c.loop-length.invariant.size in
    let two = rw (c.has_two_counts.ensures, c.split_at.ensures.front) at c.if-has_two_counts.false in
    rw (c.split_at.ensures.back, c.saturating_mul-size.ensures, c.first_count.ensures, c.split_at.ensures.front) (record {
      grouped = left_grouped rest n later grouped;
      alike = left_alike rest n later _ two alike;
      size = left_size rest n later c.loop-length.size _ (2 ^ 64 - 1) size;
    })
