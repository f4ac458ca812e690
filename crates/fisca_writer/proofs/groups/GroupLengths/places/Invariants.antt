use Rattle.std.proofs.Common.{◌≡◌, length, take}
use Rattle.fisca_writer.proofs.Places.{AreSet}
use Rattle.fisca_writer.proofs.groups.GroupLengths.places.Given as goal

-- the places of the groups so far are set
abbrev pub invariant-loop-group : goal.invariant-loop-group
invariant-loop-group l =
    record {
      many : length l.places ≡ 16;
      set : AreSet (take l.self-inside.count l.self-inside.lasts) l.places l.position l.group l.turns;
    }
