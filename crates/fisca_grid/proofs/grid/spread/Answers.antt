use Rattle.std.proofs.Common.{◌≡◌, ◌∷◌, ◌∙◌, ◌+◌, ◌*◌, ◌++◌, [], take, drop, drop-cons, add-one, get_or, map, length-append, arith, ap, refl}
use Rattle.fisca_writer.specs.Odometer.{product_of}
use Rattle.fisca_writer.proofs.Places.{product_more}
use Rattle.fisca_grid.specs.Grid.{count_of}
use Rattle.fisca_grid.specs.Turning.{specs_of, placed}
use Rattle.fisca_grid.proofs.Groups.{left_grouped, group_alike, group_counts, group_pace, group_axes, pace_within, turn_group}
use Rattle.fisca_grid.proofs.grid.spread.Goals as goal

pub push-requires-clause-small : goal.push-requires-clause-small
push-requires-clause-small c =
    let lengths = c.args.lengths.now in
    let i = c.loop-length.length-index in
    let n = get_or lengths i 0 in
    let later = drop (i + 1) lengths in
    let cut : drop i lengths ≡ n ∷ later = rw add-one (drop-cons lengths i 0 c.loop-length-test.true) in
    let size = rw cut at c.loop-length.invariant.size in
    let within = pace_within c.loop-length.rest.now n later (product_of c.loop-length.groups) _ size c.requires.some in
    rw (c.shared_count.ensures, c.split_at.ensures.front) (omega (arith, within, c.requires.few))

pub loop-length-preserved : goal.loop-length-preserved
loop-length-preserved c =
    let lengths = c.args.lengths.now in
    let rest = c.loop-length.rest.now in
    let i = c.loop-length.length-index in
    let n = get_or lengths i 0 in
    let later = drop (i + 1) lengths in
    let before = c.loop-length.groups in
    let cut : drop i lengths ≡ n ∷ later = rw add-one (drop-cons lengths i 0 c.loop-length-test.true) in
    let grouped = rw cut at c.loop-length.invariant.grouped in
    let alike = group_alike rest n later (rw cut at c.loop-length.invariant.alike) in
    let size = rw cut at c.loop-length.invariant.size in
    let turns = rw cut at c.loop-length.invariant.turns in
    let counts = rw cut at c.loop-length.invariant.counts in
    let count = c.shared_count.ensures ∙ ap (λ axes. count_of (specs_of axes)) c.split_at.ensures.front in
    let pace : product_of (before ++ c.shared_count.result ∷ []) ≡ product_of before * c.shared_count.result = product_more before c.shared_count.result in
    rw (c.split_at.ensures.back, c.push.ensures, pace, count) (record {
      grouped = left_grouped rest n later grouped;
      alike = alike.1;
      size = group_pace rest n later (product_of before) _ size;
      turns = λ position. turn_group (map (placed position) c.loop-length.turning.items) _ _ rest later n position (product_of before) _ refl alike.0 (turns position)
          (rw (← c.split_at.ensures.front, ← c.size.ensures) (c.in_ok-push_group.ensures.turns position));
      axes = group_axes _ _ _ rest n c.loop-length.invariant.axes (rw (← c.split_at.ensures.front) c.in_ok-push_group.ensures.axes);
      counts = group_counts before _ rest n later counts;
      many = omega (arith, length-append before (count_of (specs_of (take n rest)) ∷ []), c.loop-length.invariant.many);
    })
