use Rattle.std.proofs.Common.{◌≡◌, ◌++◌, replicate, string_bytes}
use Rattle.fisca_rule_files.proofs.days.write_padded.Given as goal

-- the zeros so far
abbrev pub invariant-loop-zero : goal.invariant-loop-zero
invariant-loop-zero l = string_bytes l.text ≡ string_bytes l.fn.text ++ replicate l._zero 48
