use Rattle.std.proofs.Common.{◌≡◌, drop, map, string_bytes}
use Rattle.fisca_grid.specs.Steps.NamedAxes.{name_of, has_twins}
use Rattle.fisca_grid.proofs.named_axes.has_twins.Given as goal

-- the names that are left have twins, if any have
abbrev pub invariant-loop-i : goal.invariant-loop-i
invariant-loop-i l = has_twins (map name_of (map (λ word. string_bytes word) (drop l.i l.words))) ≡ has_twins (map name_of (map (λ word. string_bytes word) l.words))
