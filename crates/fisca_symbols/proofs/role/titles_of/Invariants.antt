use Rattle.std.proofs.Common.{◌≡◌, ◌++◌, drop, map}
use Rattle.fisca_symbols.specs.KnownRoles.{roles, title}
use Rattle.fisca_symbols.proofs.role.titles_of.Given as goal

abbrev pub invariant-loop-item : goal.invariant-loop-item
invariant-loop-item l = l.names ++ map title (roles (drop l.item-index l.items)) ≡ map title (roles l.items)
