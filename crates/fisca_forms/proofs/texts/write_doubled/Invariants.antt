use Rattle.std.proofs.Common.{◌≡◌, ◌++◌, flat_map, string_bytes}
use Rattle.fisca_forms.specs.Forms.{doubled}
use Rattle.fisca_forms.proofs.texts.write_doubled.Given as goal

-- the characters so far stand in the line
abbrev pub invariant-loop-c : goal.invariant-loop-c
invariant-loop-c l = string_bytes l.line ≡ string_bytes l.fn.line ++ flat_map doubled l.yielded
