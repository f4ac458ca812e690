use Rattle.std.proofs.Common.{◌≡◌, ◌++◌, drop, map, string_bytes}
use Rattle.fisca_yaml.specs.Views.{items_view}
use Rattle.fisca_columns.specs.Named.{item_names}
use Rattle.fisca_columns.proofs.names.with_items.Given as goal

-- those that are left come behind those so far
abbrev pub invariant-loop-item : goal.invariant-loop-item
invariant-loop-item l =
    map (λ name. string_bytes name) l.all.items ++ item_names (items_view (drop l.item-index l.items)) ≡ map (λ name. string_bytes name) l.fn.names.items ++ item_names (items_view l.items)
