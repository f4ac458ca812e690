use Rattle.std.proofs.Common.{◌≡◌, ◌<◌, length, arith}
use Rattle.fisca_simulation.proofs.Steps.{at_hand_full, at_hand_ok}
use Rattle.fisca_simulation.proofs.work.at_hand.Goals as goal

pub returns-then-keys-ge-MOST_KEYS : goal.returns-then-keys-ge-MOST_KEYS
returns-then-keys-ge-MOST_KEYS c =
    let long : length c.args.keys.now ≡ 100 = omega (arith, c.requires) in
    at_hand_full c.args.keys.now c.args.key.now c.args.value c.too_long.result c.too_long.ensures long

pub returns : goal.returns
returns c =
    let room : length c.args.keys.now < 100 = omega arith in
    at_hand_ok c.args.keys.now c.args.key.now c.args.value room
