use Rattle.std.proofs.Common.{◌≡◌, drop}
use Rattle.std.specs.List.{position_from}
use Rattle.std.specs.Str.{bytes_eq}
use Rattle.fisca_symbols.specs.KnownRoles.{roles}
use Rattle.fisca_members.specs.Steps.Groups.{role_named, role_titles}
use Rattle.fisca_members.proofs.role_table.place_among.Given as goal

abbrev pub invariant-loop-place : goal.invariant-loop-place
invariant-loop-place l = position_from (λ k. bytes_eq k l.name) l.place (role_titles (roles (drop l.place l.roles))) ≡ role_named (roles l.roles) l.name
