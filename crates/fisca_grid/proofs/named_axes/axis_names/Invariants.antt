use Rattle.std.proofs.Common.{◌≡◌, ◌++◌, map, take, string_bytes}
use Rattle.fisca_grid.specs.Steps.NamedAxes.{name_of}
use Rattle.fisca_grid.proofs.named_axes.axis_names.Given as goal

-- the names of the axes so far stand behind the given ones
abbrev pub invariant-loop-word : goal.invariant-loop-word
invariant-loop-word l =
    map (λ name. string_bytes name) l.all.items ≡ map (λ name. string_bytes name) l.fn.names.items ++ map name_of (map (λ word. string_bytes word) (take l.word-index l.words))
