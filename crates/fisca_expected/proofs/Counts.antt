-- How many items a list has.
use Rattle.std.proofs.Common.{◌≡◌, suc, ap, refl, List, [], ◌∷◌, length}
use Rattle.fisca_yaml.specs.Views.{items_view}
use Rattle.fisca_yaml.specs.declared.tree.Item.{Item}
use Rattle.fisca_expected.specs.Reading.{count_of}

pub count_is_length : (is : List Item) → count_of (items_view is) ≡ length is
count_is_length [] = refl
count_is_length (i ∷ is) = ap suc (count_is_length is)
