use Rattle.std.proofs.Common.{◌≡◌, drop, map, string_bytes}
use Rattle.fisca_grid.specs.NamedAxes.{specs_of}
use Rattle.fisca_grid.proofs.Described.{behind}
use Rattle.fisca_grid.proofs.named_axes.read_axes.Given as goal

-- the axes so far and those that the other words describe are those of all words
abbrev pub invariant-loop-word : goal.invariant-loop-word
invariant-loop-word l = behind l.specs.items (specs_of (map (λ word. string_bytes word) (drop l.word-index l.words))) ≡ specs_of (map (λ word. string_bytes word) l.words)
