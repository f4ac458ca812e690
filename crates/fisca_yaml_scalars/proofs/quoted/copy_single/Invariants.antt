use Rattle.std.proofs.Common.{◌≡◌, ◌≤◌, length, string_bytes, false}
use denote.Text.{Utf8}
use denote.Shadow.{shadow}
use Rattle.fisca_yaml_scalars.specs.Scalars.{prepend, single}
use Rattle.fisca_yaml_scalars.proofs.quoted.copy_single.Given as goal

abbrev pub invariant-quotes : goal.invariant-quotes
invariant-quotes l = shadow (Utf8 l.left) × (single false l.text ≡ prepend (string_bytes l.copy) (single false l.left)) × (length l.left ≤ length l.text)

abbrev pub decreases-quotes : goal.decreases-quotes
decreases-quotes l = length l.left
