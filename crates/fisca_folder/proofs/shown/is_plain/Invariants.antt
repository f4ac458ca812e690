use Rattle.std.proofs.Common.{◌≡◌, drop}
use Rattle.fisca_folder.specs.Steps.PlainTexts.{is_plain}
use Rattle.fisca_folder.proofs.shown.is_plain.Given as goal

-- so it is exactly where the rest is
abbrev pub invariant-loop-byte : goal.invariant-loop-byte
invariant-loop-byte l = is_plain l.text ≡ is_plain (drop l.byte-index l.text)
