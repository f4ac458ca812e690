use Rattle.std.proofs.Common.{◌≡◌, drop, string_bytes}
use Rattle.fisca_symbols.specs.Known.{tables as known}
use Rattle.fisca_rows.specs.Lines.{with_moved}
use Rattle.fisca_rows.proofs.lines.write_moved.Given as goal

-- those that are left come behind those so far
abbrev pub invariant-loop-given : goal.invariant-loop-given
invariant-loop-given l = with_moved (known l.tables) l.moved (string_bytes l.fn.line) ≡ with_moved (known l.tables) (drop l.given-index l.moved) (string_bytes l.line)
