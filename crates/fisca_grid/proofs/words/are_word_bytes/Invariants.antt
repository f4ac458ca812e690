use Rattle.std.proofs.Common.{◌≡◌, drop}
use Rattle.std.specs.List.{list_all}
use Rattle.fisca_grid.specs.Steps.Words.{is_word_byte}
use Rattle.fisca_grid.proofs.words.are_word_bytes.Given as goal

abbrev pub invariant-loop-byte : goal.invariant-loop-byte
invariant-loop-byte l = list_all is_word_byte l.bytes ≡ list_all is_word_byte (drop l.byte-index l.bytes)
