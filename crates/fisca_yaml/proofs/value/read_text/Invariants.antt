use Rattle.std.proofs.Common.{◌≡◌, ◌≤◌, length}
use Rattle.std.specs.List.{list_all}
use Rattle.fisca_yaml_scalars.specs.Deeper.{front, after}
use Rattle.fisca_yaml.specs.Grouping.{is_text_line}
use Rattle.fisca_yaml_scalars.specs.Rows.{last_number}
use Rattle.fisca_yaml.proofs.value.read_text.Given as goal

abbrev pub invariant-loop-inside : goal.invariant-loop-inside
invariant-loop-inside l = (list_all (is_text_line l.indent) (front l.floor l.initial.rest) ≡ list_all (is_text_line l.indent) (front l.floor l.rest)) × (after l.floor l.rest ≡ after l.floor l.initial.rest)
    × (last_number l.rest ≤ last_number l.initial.rest)

abbrev pub decreases-loop-inside : goal.decreases-loop-inside
decreases-loop-inside l = length l.rest
