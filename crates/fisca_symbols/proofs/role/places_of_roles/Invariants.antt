use Rattle.std.proofs.Common.{◌≡◌, ℕ, List, drop}
use Rattle.std.specs.Str.{bytes_eq}
use Rattle.fisca_symbols.specs.KnownRoles.{roles}
use Rattle.fisca_symbols.specs.Steps.Spelling.{spelled}
use Rattle.fisca_model.specs.Tables.{otherwise, role_from}
use Rattle.indexmap.specs.IndexMap.{get}
use Rattle.fisca_symbols.proofs.role.places_of_roles.Given as goal

abbrev pub invariant-loop-at : goal.invariant-loop-at
invariant-loop-at l = (t : List ℕ) →
    otherwise (get bytes_eq l.places t) (role_from (λ key. bytes_eq (spelled l.spelling key) t) l.at (roles (drop l.at l.items)))
    ≡ role_from (λ key. bytes_eq (spelled l.spelling key) t) 0 (roles l.items)
