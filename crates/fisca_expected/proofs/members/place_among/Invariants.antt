use Rattle.std.proofs.Common.{◌≡◌, drop}
use Rattle.std.specs.List.{position_from}
use Rattle.std.specs.Str.{bytes_eq}
use Rattle.fisca_expected.proofs.members.place_among.Given as goal

abbrev pub invariant-loop-place : goal.invariant-loop-place
invariant-loop-place l = position_from (λ k. bytes_eq k l.name) 0 l.names ≡ position_from (λ k. bytes_eq k l.name) l.place (drop l.place l.names)
