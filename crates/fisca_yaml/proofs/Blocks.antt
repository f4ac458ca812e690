-- A block, by its first line.
use Rattle.std.proofs.Common.{◌≡◌, ℕ, zero, suc, ◌-◌, ◌<◌, true, false, List, [], ◌∷◌, Option, Some, None, option_map, is_some, refl, ap, ◌∙◌, arith}
use Rattle.std.proofs.lemmas.Bool.Decides.{nat_tests}
use Rattle.std.proofs.lemmas.Bool.{or_parts}
use Rattle.fisca_yaml.specs.Node.{Node, null, list}
use Rattle.fisca_yaml_scalars.specs.Rows.{Row}
use Rattle.fisca_yaml_scalars.specs.Steps.Rows.{rank, begins_item, is_marker}
use Rattle.fisca_yaml_scalars.specs.Scalars.{Read, entry_of}
use Rattle.fisca_yaml.specs.Grouping.{Group, groups, items_of, entries_of, item_value, entry_value, entry_with, block, block_step, value_of, map_of, alone, on_line}
use Rattle.fisca_yaml_scalars.specs.Deeper.{front}
use Rattle.fisca_yaml_scalars.specs.Steps.Openings.{opens}

pub block-nil : (d : ℕ) → block d [] ≡ Some null
unfolding block
block-nil zero = refl
block-nil (suc d) = refl

pub block-zero : (d : ℕ) (l : Row) (ls : List Row) → d ≡ 0 → block d (l ∷ ls) ≡ None
unfolding block
block-zero zero l ls e = refl
block-zero (suc d) l ls e = absurd (omega arith)

block-suc : (d : ℕ) (l : Row) (ls : List Row) → 0 < d → block d (l ∷ ls) ≡ block_step (d - 1) (block (d - 1)) l ls
unfolding block
block-suc zero l ls h = absurd (omega arith)
block-suc (suc d) l ls h = let e : d ≡ suc d - 1 = omega arith in ap (λ k. block_step k (block k) l ls) e

step-item : (d : ℕ) (b : List Row → Option Node) (l : Row) (ls : List Row) → begins_item l.content ≡ true → block_step d b l ls ≡ option_map list (items_of (item_value d b) (rank l) (groups (rank l) (l ∷ ls)))
step-item d b l ls e = rw e refl

step-entry : (d : ℕ) (b : List Row → Option Node) (l : Row) (ls : List Row) → begins_item l.content ≡ false → block_step d b l ls ≡ map_of (entries_of (entry_value d b) (rank l) (groups (rank l) (l ∷ ls)))
step-entry d b l ls e = rw e refl

pub block-item : (d : ℕ) (l : Row) (ls : List Row) → 0 < d → begins_item l.content ≡ true → block d (l ∷ ls) ≡ option_map list (items_of (item_value (d - 1) (block (d - 1))) (rank l) (groups (rank l) (l ∷ ls)))
block-item d l ls h e = block-suc d l ls h ∙ step-item (d - 1) (block (d - 1)) l ls e

pub block-entry : (d : ℕ) (l : Row) (ls : List Row) → 0 < d → begins_item l.content ≡ false → block d (l ∷ ls) ≡ map_of (entries_of (entry_value (d - 1) (block (d - 1))) (rank l) (groups (rank l) (l ∷ ls)))
block-entry d l ls h e = block-suc d l ls h ∙ step-entry (d - 1) (block (d - 1)) l ls e

no_entry : (o : Read) → is_some o ≡ false → o ≡ None
no_entry None e = refl
no_entry (Some p) e = absurd (cc)

refused : (value : Group → Option (List ℕ × Node)) (r : ℕ) (l : Row) (ls : List Row) → rank l ≡ r → value (record { head = l; inside = front r ls }) ≡ None → entries_of value r (groups r (l ∷ ls)) ≡ None
refused value r l ls h e = grind (arith, nat_tests)

pub block-closed : (d : ℕ) (l : Row) (ls : List Row) → opens l ≡ false → block d (l ∷ ls) ≡ None
unfolding block
block-closed zero l ls e = refl
block-closed (suc d) l ls e =
    let p = or_parts (begins_item l.content) (is_some (entry_of l.content)) e in
    let g : Group = record { head = l; inside = front (rank l) ls } in
    let none : entry_value d (block d) g ≡ None = ap (entry_with d (block d) g) (no_entry (entry_of l.content) p.1) in
    step-entry d (block d) l ls p.0 ∙ ap map_of (refused (entry_value d (block d)) (rank l) l ls refl none)

pub value-opens : (d : ℕ) (r : Row) (rs : List Row) → is_marker r ≡ false → opens r ≡ true → value_of d (r ∷ rs) ≡ block d (r ∷ rs)
value-opens d r rs m e = rw (m, e) refl

pub value-alone : (d : ℕ) (r : Row) (rs : List Row) → is_marker r ≡ false → opens r ≡ false → value_of d (r ∷ rs) ≡ alone rs (on_line d r)
value-alone d r rs m e = rw (m, e) refl
