-- How definitions see what the code keeps of an input.
use Rattle.std.specs.Prelude.{map}
use Rattle.fisca_symbols.specs.KnownRoles.{role}
use Rattle.fisca_yaml.specs.Views.{node}
use Rattle.fisca_members.specs.declared.holders.Post.{Post}
use Rattle.fisca_members.specs.declared.section.Input.{Input}
use Rattle.fisca_members.specs.declared.section.Input.TheVariants as input
use Rattle.fisca_members.specs.declared.section.Section.{Section}
use Rattle.fisca_members.specs.Faults.{entries_in}
use Rattle.fisca_members.specs.Groups as groups
use Rattle.fisca_members.specs.Sections as sections

abbrev pub section : Section → sections.Section
section s = record { named = s.named; key = s.key.now; line = s.line; value = node s.value.now }

abbrev pub input_view : Input → sections.Input
input_view (input.OnePerson variables) = sections.one_person (entries_in (node variables.now))
input_view (input.Sections ss) = sections.sections (map section ss.items)

abbrev pub post : Post → groups.Post
post p = record { group = p.group; place = p.place; role = role p.role.now }
