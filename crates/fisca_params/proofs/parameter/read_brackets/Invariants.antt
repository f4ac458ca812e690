use Rattle.std.proofs.Common.{◌≡◌, drop}
use Rattle.fisca_yaml.specs.Views.{items_view}
use Rattle.fisca_params.specs.Steps.Content.{brackets_of}
use Rattle.fisca_params.specs.FaultLines.{brackets_line}
use Rattle.fisca_params.proofs.Walks.{after}
use Rattle.fisca_params.proofs.parameter.read_brackets.Given as goal

-- what is read, before what is left, is the whole
abbrev pub invariant-loop-item : goal.invariant-loop-item
invariant-loop-item l =
    (brackets_of (items_view l.items) ≡ after l.brackets.items (brackets_of (items_view (drop l.item-index l.items))))
    × (brackets_line (items_view l.items) ≡ brackets_line (items_view (drop l.item-index l.items)))
