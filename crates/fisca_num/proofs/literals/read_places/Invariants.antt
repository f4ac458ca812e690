use Rattle.std.proofs.Common.{◌≡◌, drop, take}
use Rattle.fisca_num.proofs.Reading.{is_rest}
use Rattle.fisca_num.specs.Literal.{are_digits_or_none, digits_in, IsRead}
use Rattle.fisca_num.proofs.literals.read_places.Given as goal

abbrev pub invariant-loop-byte : goal.invariant-loop-byte
invariant-loop-byte l = record {
  form : is_rest l.digit (drop l.byte-index l.text) ≡ are_digits_or_none l.text;
  read : IsRead (digits_in (take l.byte-index l.text)) l.number l.count l.few;
}
