-- What the keys of an input name: the variables of one person, or the members of entities.
use Rattle.std.specs.Prelude.{ℕ, List}
use Rattle.fisca_yaml.specs.Node.{Node, Entries}
use Rattle.fisca_members.specs.declared.section.Named.{Named}

-- what stands at a key that names an entity
pub record Section : Type 0 where
  pub named : Named
  pub key : List ℕ
  pub line : ℕ
  pub value : Node

-- the variables of the only person, or sections from top to bottom
pub data Input : Type 0 where
  one_person : Entries → Input
  sections : List Section → Input
