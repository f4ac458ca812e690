-- What formulas may name of roles.
use Rattle.std.specs.Prelude.{◌≡◌, ℕ, List, map}
use Rattle.std.specs.Option.{unwrap_or}
use Rattle.std.specs.Str.{bytes_eq}
use Rattle.fisca_symbols.specs.declared.role.Role.{Role}
use Rattle.fisca_model.specs.declared.role_place.RolePlace.{RolePlace}
use Rattle.fisca_model.specs.Tables as typing
use Rattle.indexmap.specs.IndexMap.{IndexMap, get}

abbrev pub role : Role → typing.Role
role r = record { key = r.key; plural = r.plural; max = r.max; subroles = r.subroles }

abbrev pub roles : List Role → List typing.Role
roles = map role

-- the name that inputs give a role: its plural, or its key if it has none
abbrev pub title : typing.Role → List ℕ
title r = unwrap_or r.plural r.key

-- each text leads to the first role or subrole with this key, and with this constant; and the titles of all
pub record AreFound {S : Type 0} (rs : List Role) (keys constants : IndexMap (List ℕ) RolePlace S) (all : List (List ℕ)) : Type 0 where
  pub by_key : (t : List ℕ) → get bytes_eq keys t ≡ typing.role_of_key (roles rs) t
  pub by_constant : (t : List ℕ) → get bytes_eq constants t ≡ typing.role_of_constant (roles rs) t
  pub titles : all ≡ map title (roles rs)
