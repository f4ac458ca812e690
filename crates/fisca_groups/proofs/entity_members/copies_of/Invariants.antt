use Rattle.std.proofs.Common.{◌≡◌, ◌≤◌, ◌++◌, ℕ, List, drop, length, map}
use Rattle.std.specs.Prelude.{String, string_bytes}
use Rattle.std.specs.declared.alloc.Global.{Global}
use Rattle.fisca_groups.proofs.entity_members.copies_of.Given as goal

abbrev names_of : List (String Global) → List (List ℕ)
names_of = map (λ s. string_bytes s)

abbrev pub invariant-loop-name : goal.invariant-loop-name
invariant-loop-name l = (l.copies ++ names_of (drop l.name-index l.names) ≡ names_of l.names) × (length l.copies ≡ l.name-index) × (length l.names ≤ 1000)
