use Rattle.std.proofs.Common.{◌≡◌, drop, map, string_bytes}
use Rattle.std.specs.List.{list_any}
use Rattle.std.specs.Str.{bytes_eq}
use Rattle.fisca_grid.specs.Steps.NamedAxes.{name_of}
use Rattle.fisca_grid.proofs.named_axes.is_named.Given as goal

-- the name is among those that are left, if at all
abbrev pub invariant-loop-word : goal.invariant-loop-word
invariant-loop-word l =
    list_any (λ other. bytes_eq other l.name) (map name_of (map (λ word. string_bytes word) (drop l.word-index l.words)))
    ≡ list_any (λ other. bytes_eq other l.name) (map name_of (map (λ word. string_bytes word) l.words))
