use Rattle.std.proofs.Common.{◌≡◌, ◌≤◌, ◌^◌, min, drop}
use Rattle.std.specs.List.{before_first}
use Rattle.std.specs.Str.Parse.{digits_value, digits_value_after}
use Rattle.fisca_num.specs.Literal.{is_point, are_digits, digits_in}
use Rattle.fisca_num.proofs.Reading.{is_rest}
use Rattle.fisca_num.proofs.Before.{IsWithoutPoint}
use Rattle.fisca_num.proofs.literals.read_whole.Given as goal

abbrev pub invariant-loop-index : goal.invariant-loop-index
invariant-loop-index l = record {
  small : l.number ≤ 10 ^ 19;
  none : IsWithoutPoint l.text l.index;
  form : is_rest l.digit (drop l.index (before_first is_point l.text)) ≡ are_digits (before_first is_point l.text);
  value : min (10 ^ 19) (digits_value_after 10 l.number (digits_in (drop l.index (before_first is_point l.text)))) ≡ min (10 ^ 19) (digits_value 10 (digits_in (before_first is_point l.text)));
}
