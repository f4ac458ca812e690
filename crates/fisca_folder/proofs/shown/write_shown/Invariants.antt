use Rattle.std.proofs.Common.{◌≡◌, ◌++◌, flat_map, string_bytes}
use Rattle.fisca_folder.specs.Shown.{shown_char}
use Rattle.fisca_folder.proofs.shown.write_shown.Given as goal

-- the characters so far stand in the line
abbrev pub invariant-loop-c : goal.invariant-loop-c
invariant-loop-c l = string_bytes l.line ≡ string_bytes l.fn.line ++ flat_map shown_char l.yielded
