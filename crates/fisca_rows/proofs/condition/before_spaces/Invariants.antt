use Rattle.std.proofs.Common.{◌≡◌, length}
use denote.Shadow.{shadow}
use denote.Text.{Utf8}
use Rattle.fisca_rows.specs.Steps.Conditions.{before_spaces}
use Rattle.fisca_rows.proofs.condition.before_spaces.Given as goal

abbrev pub invariant-spaces : goal.invariant-spaces
invariant-spaces l = shadow (Utf8 l.rest) × (before_spaces l.rest ≡ before_spaces l.fn.text)

abbrev pub decreases-spaces : goal.decreases-spaces
decreases-spaces l = length l.rest
