use Rattle.std.proofs.Common.{◌≡◌, ◌+◌, ◌-◌, ◌≤◌, length, drop, false}
use Rattle.std.specs.Prelude.{option_map}
use Rattle.fisca_ast.specs.Steps.Strings.{quoted}
use Rattle.fisca_ast.proofs.strings.quoted_len.Given as goal

abbrev pub invariant-loop-n : goal.invariant-loop-n
invariant-loop-n l = (l.n ≤ length l.text) × (quoted l.quote false l.text ≡ option_map (λ k. l.n + k) (quoted l.quote l.taken (drop l.n l.text)))

abbrev pub decreases-loop-n : goal.decreases-loop-n
decreases-loop-n l = length l.text - l.n
