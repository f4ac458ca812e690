use Rattle.std.proofs.Common.{◌≡◌, ◌++◌, drop, take}
use Rattle.fisca_situations.specs.Steps.Axes.{put_in}
use Rattle.fisca_situations.proofs.putting.put_in.Given as goal

-- none so far is the same
abbrev pub invariant-loop-i : goal.invariant-loop-i
invariant-loop-i l =
    record {
      stays : l.given.items ≡ l.initial.given.items;
      past : put_in l.initial.given.items l.input ≡ take l.i l.initial.given.items ++ put_in (drop l.i l.initial.given.items) l.input;
    }
