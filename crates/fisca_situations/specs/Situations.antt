-- Situations: the members of entities and their inputs, or the first fault. Entities come first, then the inputs from top to bottom, then
-- their sharing.
use Rattle.std.specs.Prelude.{List}
use Rattle.fisca_inputs.specs.Entries.{Entries}
use Rattle.fisca_groups.specs.declared.entity_members.EntityMembers.{EntityMembers}

pub record Situation : Type 0 where
  pub members : List EntityMembers
  pub inputs : Entries
