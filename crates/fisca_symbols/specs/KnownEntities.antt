-- What formulas may name of entities.
use Rattle.std.specs.Prelude.{◌≡◌, ℕ, List, map, Option}
use Rattle.std.specs.Str.{bytes_eq}
use Rattle.fisca_symbols.specs.declared.entity.Entity.{Entity}
use Rattle.fisca_symbols.specs.KnownRoles.{roles}
use Rattle.fisca_model.specs.Tables as typing
use Rattle.indexmap.specs.IndexMap.{IndexMap, get}

abbrev pub entity : Entity → typing.Entity
entity e = record { constant = e.constant; key = e.key; plural = e.plural; is_person = e.is_person; roles = roles e.roles }

abbrev pub entities : List Entity → List typing.Entity
entities = map entity

-- each text leads to the first entity with this constant, and to the first group with this key; which are the persons; and the two names of
-- each
pub record AreFound {S : Type 0} (es : List Entity) (constants keys : IndexMap (List ℕ) ℕ S) (person : Option ℕ) (all ones : List (List ℕ)) : Type 0 where
  pub by_constant : (t : List ℕ) → get bytes_eq constants t ≡ typing.place_in (λ e. bytes_eq e.constant t) (entities es)
  pub by_key : (t : List ℕ) → get bytes_eq keys t ≡ typing.place_in (typing.is_group_of t) (entities es)
  pub persons : person ≡ typing.place_in typing.is_person (entities es)
  pub plurals : all ≡ map (λ e. e.plural) (entities es)
  pub names : ones ≡ map (λ e. e.key) (entities es)
