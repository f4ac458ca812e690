use Rattle.std.proofs.Common.{◌≡◌, ◌-◌, arith, length, drop}
use Rattle.std.proofs.lemmas.List.{length-drop, drop_all}
use Rattle.fisca_num.proofs.Division.{IsPlaces, part_none, part_some, places_as_word}
use Rattle.fisca_num.proofs.text.put_part.Goals as goal
use Rattle.fisca_num.proofs.text.put_part.Goals.{then-count-le-WORD_PLACES, else-count-le-WORD_PLACES}

pub returns-then-count-eq0-clause-part : goal.returns-then-count-eq0-clause-part
returns-then-count-eq0-clause-part c = part_none _ _ _ _ c.requires.fraction c.requires.ends c.if-count-eq0.true (drop_all (length c.args.buffer.now) c.args.buffer.now (omega arith))

pub put_division-requires-clause-ends : goal.put_division-requires-clause-ends
put_division-requires-clause-ends c =
    let same : length c.args.buffer.now - (length c.args.buffer.now - c.args.count) ≡ c.args.count = omega arith in
    rw same c.requires.ends

places : (c : goal.After-slice_known-2-1) → IsPlaces c.args.rest c.args.denominator c.args.count (drop (length c.args.buffer.now - c.args.count) c.if-count-le-WORD_PLACES.buffer)
places c = elim c.if-count-le-WORD_PLACES.branch [
  | then-count-le-WORD_PLACES w ↦
      let start : w.put_places.result ≡ length c.args.buffer.now - c.args.count = omega (arith, w.put_places.ensures.start) in
      places_as_word _ _ _ w.pow.result (length c.args.buffer.now) _ c.args.buffer.now c.requires.fraction c.requires.ends w.pow.ensures (omega arith) (rw (w.buffer-is, ← start) w.put_places.ensures.text)
  | else-count-le-WORD_PLACES w ↦
      let count : length c.args.buffer.now - (length c.args.buffer.now - c.args.count) ≡ c.args.count = omega arith in
      record { digits = rw w.buffer-is w.put_division.ensures.digits; value = rw w.buffer-is (rw count at w.put_division.ensures.value) }
]

pub returns-clause-part : goal.returns-clause-part
returns-clause-part c =
    let size : length (drop (length c.args.buffer.now - c.args.count) c.if-count-le-WORD_PLACES.buffer) ≡ c.args.count = omega (arith, length-drop (length c.args.buffer.now - c.args.count) c.if-count-le-WORD_PLACES.buffer) in
    part_some _ _ _ _ _ (omega arith) size (places c) c.put_byte.ensures.text
