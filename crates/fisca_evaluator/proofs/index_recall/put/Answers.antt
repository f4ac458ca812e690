use Rattle.std.proofs.Common.{List, Some, ap, if◌then◌else◌, ◌∙◌}
use Rattle.std.specs.Map.{lookup}
use Rattle.fisca_inputs.specs.Entries.{same_key}
use Rattle.fisca_model.specs.declared.key.Key.{Key}
use Rattle.fisca_inputs.proofs.Noted.{put_seen}
use Rattle.fisca_evaluator.specs.declared.known.Stamped.{Stamped}
use Rattle.fisca_evaluator.proofs.index_recall.put.Goals as goal

pub returns-clause-ok : goal.returns-clause-ok
returns-clause-ok c k =
    let with_room = c.make_room.ensures in
    c.in_ok-place.ensures.updates.0 k ∙ put_seen c.args.key c.args.stamped k (lookup (same_key k) c.make_room.new.entries.entries)
    ∙ ap (λ (es : List (Key × Stamped)). if same_key k c.args.key then Some c.args.stamped else lookup (same_key k) es) with_room
