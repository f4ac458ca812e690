use Rattle.std.proofs.Common.{◌≡◌, ◌+◌, ◌-◌, ◌≤◌, ◌<◌, length, drop, false}
use Rattle.std.specs.Prelude.{option_map}
use Rattle.fisca_ast.specs.Steps.Strings.{tripled}
use Rattle.fisca_ast.proofs.strings.tripled_len.Given as goal

abbrev pub invariant-loop-n : goal.invariant-loop-n
invariant-loop-n l = (l.n ≤ length l.text) × (l.quotes < 3) × (tripled l.quote 0 false l.text ≡ option_map (λ k. l.n + k) (tripled l.quote l.quotes l.taken (drop l.n l.text)))

abbrev pub decreases-loop-n : goal.decreases-loop-n
decreases-loop-n l = length l.text - l.n
