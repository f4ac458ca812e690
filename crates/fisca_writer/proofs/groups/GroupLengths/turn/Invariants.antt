use Rattle.std.proofs.Common.{◌≡◌, length, take}
use Rattle.fisca_writer.proofs.Places.{AreTurned}
use Rattle.fisca_writer.proofs.groups.GroupLengths.turn.Given as goal

-- the groups so far have come to their ends
abbrev pub invariant-loop-group : goal.invariant-loop-group
invariant-loop-group l =
    record {
      many : length l.places ≡ 16;
      turned : AreTurned (take l.self-inside.count l.self-inside.lasts) l.initial.places l.places l.group;
    }
