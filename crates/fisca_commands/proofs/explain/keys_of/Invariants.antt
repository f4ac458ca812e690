use Rattle.std.proofs.Common.{◌≡◌, Some, take}
use Rattle.fisca_commands.specs.Explain.{named}
use Rattle.fisca_commands.proofs.explain.keys_of.Given as goal

-- the words so far name these keys
abbrev pub invariant-words : goal.invariant-words
invariant-words l = named l.rules l.situation l.default (take l.word-index l.words) ≡ Some l.keys.items
