use Rattle.std.proofs.Common.{◌≡◌, ◌++◌, string_bytes}
use Rattle.fisca_explain.specs.LineTexts.{indentation}
use Rattle.fisca_explain.proofs.text.write_depth.Given as goal

-- the spaces of the levels so far
abbrev pub invariant-loop-level : goal.invariant-loop-level
invariant-loop-level l = string_bytes l.out ≡ string_bytes l.fn.out ++ indentation l._level
