use Rattle.std.proofs.Common.{◌≡◌, drop}
use Rattle.fisca_check_calls.specs.Arguments.{all_settled, any_keyword}
use Rattle.fisca_check_calls.proofs.arguments.has_keyword.Given as goal

abbrev pub invariant-loop-argument : goal.invariant-loop-argument
invariant-loop-argument l = any_keyword (all_settled l.arguments) ≡ any_keyword (all_settled (drop l.argument-index l.arguments))
