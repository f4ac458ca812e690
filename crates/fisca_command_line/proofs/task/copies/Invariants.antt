use Rattle.std.proofs.Common.{◌≡◌, map, take, string_bytes}
use Rattle.fisca_command_line.proofs.task.copies.Given as goal

abbrev pub invariant-loop-text : goal.invariant-loop-text
invariant-loop-text l = map (λ copy. string_bytes copy) l.copies.items ≡ map (λ text. text.now) (take l.text-index l.texts)
