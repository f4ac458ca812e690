use Rattle.std.proofs.Common.{◌≡◌, ◌<◌, get_or, length, arith, rules}
use Rattle.std.proofs.lemmas.Str.{lead_after_ascii}
use Rattle.fisca_time.proofs.Splits.{pieces_at_first, pieces_at_none}
use Rattle.fisca_time.proofs.pieces.split.Goals as goal

pub split_at-requires-then-bytes-at : goal.split_at-requires-then-bytes-at
split_at-requires-then-bytes-at c =
    let here : get_or c.args.text.now c.loop-at.at 0 ≡ c.args.separator = search rules in
    let inside : c.loop-at.at < length c.args.text.now = search rules in
    (omega (arith, inside), lead_after_ascii c.args.text.now c.loop-at.at c.utf8.text (omega (arith, here, c.requires)))

pub returns-then-bytes-at : goal.returns-then-bytes-at
returns-then-bytes-at c =
    rw (c.split_at.ensures.front, c.split_at-then-bytes-at.ensures.back)
    (pieces_at_first c.args.separator c.args.text.now c.loop-at.at (search rules) (search rules) c.loop-at.invariant)

pub returns : goal.returns
returns c =
    let whole : length c.args.text.now ≡ c.loop-at.at = search rules in
    pieces_at_none c.args.separator c.args.text.now (λ k h. c.loop-at.invariant k (omega (arith, h, whole)))
