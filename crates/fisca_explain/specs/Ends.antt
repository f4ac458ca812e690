-- Why lines end: whether the sink failed.
use Rattle.std.specs.Prelude.{Bool, true, false, Result, Ok, Err}
use Rattle.fisca_simulation.specs.declared.note.Halted.{Halted}
use Rattle.fisca_simulation.specs.declared.note.Halted.TheVariants as halted
use Rattle.fisca_explain.specs.declared.explain.ExplainFault.{ExplainFault}
use Rattle.fisca_explain.specs.declared.explain.ExplainFault.TheVariants as end
use Rattle.fisca_explain.specs.declared.walk.LinesFault.{LinesFault}
use Rattle.fisca_explain.specs.declared.walk.LinesFault.TheVariants as lines

abbrev pub is_write : {X : Type 0} → Result X LinesFault → Bool
is_write (Ok x) = false
is_write (Err lines.Write) = true
is_write (Err lines.Memory) = false

abbrev pub is_failed_write : {X : Type 0} → Result X ExplainFault → Bool
is_failed_write (Ok x) = false
is_failed_write (Err (end.Eval fault)) = false
is_failed_write (Err end.Write) = true
is_failed_write (Err end.Memory) = false

-- the end of lines says nothing of a value
abbrev pub IsOfLines : ExplainFault → Type 0
IsOfLines (end.Eval fault) = ⊥
IsOfLines end.Write = Unit {0}
IsOfLines end.Memory = Unit {0}

-- a formula that was followed ended for want of memory
abbrev pub is_wanting : {X : Type 0} → Result X Halted → Bool
is_wanting (Ok x) = false
is_wanting (Err (halted.Fault e)) = false
is_wanting (Err halted.Unanswered) = false
is_wanting (Err halted.Memory) = true
