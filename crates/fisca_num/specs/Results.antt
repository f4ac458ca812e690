-- One step after another.
use Rattle.std.specs.Prelude.{Result, Ok, Err}

-- the next step with what this one gives, or this one's refusal
abbrev pub and_then : {X Y E : Type 0} → Result X E → (X → Result Y E) → Result Y E
and_then (Ok x) next = next x
and_then (Err e) next = Err e
