use Rattle.std.proofs.Common.{◌≡◌, map, string_bytes}
use Rattle.fisca_web.specs.Message.{first_parts}
use Rattle.fisca_web.proofs.message.words_in.Given as goal

abbrev pub invariant-loop-i : goal.invariant-loop-i
invariant-loop-i l = map (λ word. string_bytes word) l.found.items ≡ first_parts l.bytes l.ends l.i
