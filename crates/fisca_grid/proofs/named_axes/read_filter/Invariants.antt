use Rattle.std.proofs.Common.{◌≡◌, drop, map, string_bytes}
use Rattle.fisca_grid.specs.NamedAxes.{filter_from}
use Rattle.fisca_grid.specs.Steps.NamedAxes.{name_of}
use Rattle.fisca_grid.proofs.named_axes.read_filter.Given as goal

-- the condition is on one of the axes that are left, if on any
abbrev pub invariant-loop-axis : goal.invariant-loop-axis
invariant-loop-axis l = filter_from l.axis (map name_of (map (λ word. string_bytes word) (drop l.axis l.words))) l.text ≡ filter_from 0 (map name_of (map (λ word. string_bytes word) l.words)) l.text
