use Rattle.std.proofs.Common.{◌≡◌, ◌≤◌, length, string_bytes}
use denote.Text.{Utf8}
use denote.Shadow.{shadow}
use Rattle.fisca_yaml_scalars.specs.Scalars.{prepend, double, none}
use Rattle.fisca_yaml_scalars.proofs.quoted.copy_double.Given as goal

abbrev pub invariant-pieces : goal.invariant-pieces
invariant-pieces l = shadow (Utf8 l.left) × (double none l.text ≡ prepend (string_bytes l.copy) (double none l.left)) × (length l.left ≤ length l.text)

abbrev pub decreases-pieces : goal.decreases-pieces
decreases-pieces l = length l.left
