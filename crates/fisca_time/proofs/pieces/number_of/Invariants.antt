use Rattle.std.proofs.Common.{◌≡◌, ◌≤◌, min, drop}
use Rattle.std.specs.Str.{all_ascii_digits}
use Rattle.std.specs.Str.Parse.{digits_value, digits_value_after}
use Rattle.fisca_time.proofs.pieces.number_of.Given as goal

-- what is left decides whether all are digits, and writes the rest of the number
abbrev pub invariant-loop-byte : goal.invariant-loop-byte
invariant-loop-byte l = record {
  small : l.number ≤ 10_000;
  digits : all_ascii_digits (drop l.byte-index l.text) ≡ all_ascii_digits l.text;
  same : min 10_000 (digits_value_after 10 l.number (drop l.byte-index l.text)) ≡ min 10_000 (digits_value 10 l.text);
}
