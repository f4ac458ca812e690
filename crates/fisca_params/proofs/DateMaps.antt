-- Date maps as they are written.
use Rattle.std.proofs.Common.{◌≡◌, List, [], ◌∷◌, length, refl}
use Rattle.fisca_yaml.specs.declared.tree.Entry.{Entry}
use Rattle.fisca_yaml.specs.Views.{entries_view}
use Rattle.fisca_params.specs.Steps.Content.{are_instants, is_date_map}

pub date_map-some : (es : List Entry) → (length es ≡ 0 → ⊥) → are_instants (entries_view es) ≡ is_date_map (entries_view es)
date_map-some [] h = absurd (h refl)
date_map-some (e ∷ es) h = refl
