-- A tree that is found at any depth is found at its own, and a tree found at a depth is no deeper.
use Rattle.std.proofs.Common.{◌≡◌, ℕ, zero, suc, max, ◌<◌, ◌≤◌, Bool, true, false, cond, eqb, List, [], ◌∷◌, length, Option, Some, None, option_map, is_some, refl, sym, ap, ap₂, subst, ◌∙◌, arith}
use Rattle.std.specs.Prelude.{not, ◌&&◌}
use Rattle.std.specs.List.{list_all}
use Rattle.std.specs.Prelude.{◌^◌}
use Rattle.std.proofs.lemmas.Bool.Decides.{nat_tests}
use Rattle.fisca_yaml.specs.Node.{Node, keys, repeats, null, scalar, list, map, Items, no_items, item, Entries, no_entries, nested, items_nested, entries_nested}
use Rattle.fisca_yaml_scalars.specs.Rows.{Row}
use Rattle.fisca_yaml_scalars.specs.Steps.Rows.{rank, begins_item, following, after_dash, is_marker, text_rows, tail}
use Rattle.fisca_yaml_scalars.specs.Scalars.{Read, entry_of, quoted, key_split, before_comment}
use Rattle.fisca_yaml.specs.Leaves.{quoted_value, plain_value}
use Rattle.fisca_yaml_scalars.specs.Steps.Scalars.{is_key, is_quote, ends_line, may_begin, trim_end}
use Rattle.fisca_yaml.specs.Steps.Leaves.{leaf}
use Rattle.fisca_yaml.specs.Flow.{add_pair, flow_value}
use Rattle.fisca_yaml.specs.Grouping.{Group, groups, joined, all_of, items_of, entries_of, item_value, item_rest, entry_value, entry_rest, entry_with, keyed, alone, ended, on_line, is_text_line, text_block, beside, block, block_step, value_of, map_of, tree, document}
use Rattle.fisca_yaml_scalars.specs.Steps.Openings.{is_bracket, begins_text, opens, opens_item}
use Rattle.fisca_yaml.specs.Steps.Grouping.{is_header}
use Rattle.fisca_yaml.proofs.Blocks.{block-nil}
use Rattle.fisca_yaml.proofs.FlowDepth.{deep_pair, flow_grow, flow_bounded, leaf_nests}

some_same : {A : Type 0} {x y : A} → Some x ≡ Some y → x ≡ y
some_same e = cc

map_some : {A B : Type 0} (f : A → B) (o : Option A) (y : B) → option_map f o ≡ Some y → (x : A) × (o ≡ Some x) × (f x ≡ y)
map_some f None y e = absurd (cc)
map_some f (Some x) y e = (x, refl, cc)

cond_some : {A : Type 0} (b : Bool) (o : Option A) (y : A) → cond b o None ≡ Some y → (b ≡ true) × (o ≡ Some y)
cond_some true o y e = (refl, e)
cond_some false o y e = absurd (cc)

joined_some : {A B : Type 0} (put : A → B → B) (v : Option A) (r : Option B) (b : B) → joined put v r ≡ Some b → (x : A) × (y : B) × (v ≡ Some x) × (r ≡ Some y) × (put x y ≡ b)
joined_some put None r b e = absurd (cc)
joined_some put (Some x) None b e = absurd (cc)
joined_some put (Some x) (Some y) b e = (x, y, refl, refl, cc)

map_of_some : (o : Option Entries) (t : Node) → map_of o ≡ Some t → (es : Entries) × (o ≡ Some es) × (map es ≡ t)
map_of_some None t e = absurd (cc)
map_of_some (Some es) t e = (es, refl, kept (repeats (keys es)) e) where
  kept : (b : Bool) → cond b None (Some (map es)) ≡ Some t → map es ≡ t
  kept true e = absurd (cc)
  kept false e = cc

keyed_some : (k : List ℕ) (o : Option Node) (p : List ℕ × Node) → keyed k o ≡ Some p → (o ≡ Some p.1) × (p.0 ≡ k)
keyed_some k None p e = absurd (cc)
keyed_some k (Some n) p e = (cc, cc)

-- what b gives, no deeper than d, c gives too
abbrev Grows : ℕ → (List Row → Option Node) → (List Row → Option Node) → Type 0
Grows d b c = (ls : List Row) (t : Node) → b ls ≡ Some t → nested t ≤ d → c ls ≡ Some t

module _ {A B : Type 0} (none : B) (put : ℕ → A → B → B) (deep : A → ℕ) (depth : B → ℕ) (split : (n : ℕ) (a : A) (b : B) → depth (put n a b) ≡ max (deep a) (depth b))
    (d : ℕ) (value wider : Group → Option A) (h : (g : Group) (a : A) → value g ≡ Some a → deep a ≤ d → wider g ≡ Some a) (r : ℕ) where
  all_grow : (gs : List Group) (b : B) → all_of none put value r gs ≡ Some b → depth b ≤ d → all_of none put wider r gs ≡ Some b
  all_grow [] b e n = e
  all_grow (g ∷ gs) b e n =
      let p = cond_some (eqb (rank g.head) r) (joined (put g.head.number) (value g) (all_of none put value r gs)) b e in
      let q = joined_some (put g.head.number) (value g) (all_of none put value r gs) b p.1 in
      let whole : max (deep q.0) (depth q.1) ≤ d = rw (split g.head.number q.0 q.1) at (subst (λ (i : B). depth i ≤ d) (sym q.4) n) in
      let first : wider g ≡ Some q.0 = h g q.0 q.2 (omega (arith, whole)) in
      let more : all_of none put wider r gs ≡ Some q.1 = all_grow gs q.1 q.3 (omega (arith, whole)) in
      ap (λ v. cond v (joined (put g.head.number) (wider g) (all_of none put wider r gs)) None) p.0 ∙ ap₂ (joined (put g.head.number)) first more ∙ ap Some q.4

-- values on their line
ended_some : (o : Option (Node × List ℕ)) (t : Node) → ended o ≡ Some t → (r : List ℕ) × (o ≡ Some (t, r))
ended_some None t e = absurd (cc)
ended_some (Some p) t e =
    let q = cond_some (ends_line p.1) (Some p.0) t e in
    let same : p.0 ≡ t = some_same q.1 in
    (p.1, ap (λ (n : Node). Some (n, p.1)) same)

line_grow : (d e : ℕ) (r : Row) (t : Node) → on_line d r ≡ Some t → nested t ≤ e → on_line e r ≡ Some t
line_grow d e r t h m = by_kind (is_bracket r.content) h where
  other : Option Node
  other = cond (is_quote r.content) (quoted_value r.number (quoted r.content)) (plain_value r.number r.content)

  by_kind : (x : Bool) → cond x (ended (flow_value d r.number r.content)) (cond (is_quote r.content) (quoted_value r.number (quoted r.content)) (plain_value r.number r.content)) ≡ Some t
      → cond x (ended (flow_value e r.number r.content)) (cond (is_quote r.content) (quoted_value r.number (quoted r.content)) (plain_value r.number r.content)) ≡ Some t
  by_kind true h =
      let q = ended_some (flow_value d r.number r.content) t h in
      ap ended (flow_grow d e r.number r.content t q.0 q.1 m) ∙ sym (ap ended q.1) ∙ h
  by_kind false h = h

quoted_flat : (n : ℕ) (o : Read) (t : Node) → quoted_value n o ≡ Some t → nested t ≡ 0
quoted_flat n None t e = absurd (cc)
quoted_flat n (Some p) t e =
    let q = cond_some (ends_line p.1) (Some (scalar p.0 true n)) t e in
    let same : scalar p.0 true n ≡ t = some_same q.1 in
    ap nested (sym same)

plain_flat : (n : ℕ) (bs : List ℕ) (t : Node) → plain_value n bs ≡ Some t → nested t ≡ 0
plain_flat n bs t e =
    let q = cond_some (may_begin bs && not (is_some (key_split false bs))) (Some (leaf n (trim_end (before_comment false bs)))) t e in
    let same : leaf n (trim_end (before_comment false bs)) ≡ t = some_same q.1 in
    ap nested (sym same) ∙ leaf_nests n (trim_end (before_comment false bs))

line_bounded : (d : ℕ) (r : Row) (t : Node) → on_line d r ≡ Some t → nested t ≤ d
line_bounded d r t h = by_kind (is_bracket r.content) (is_quote r.content) h where
  by_kind : (x y : Bool) → cond x (ended (flow_value d r.number r.content)) (cond y (quoted_value r.number (quoted r.content)) (plain_value r.number r.content)) ≡ Some t → nested t ≤ d
  by_kind true y h = let q = ended_some (flow_value d r.number r.content) t h in flow_bounded d r.number r.content t q.0 q.1
  by_kind false true h = let z = quoted_flat r.number (quoted r.content) t h in omega arith
  by_kind false false h = let z = plain_flat r.number r.content t h in omega arith

alone_grow : (ls : List Row) (o p : Option Node) (t : Node) → (o ≡ Some t → p ≡ Some t) → alone ls o ≡ Some t → alone ls p ≡ Some t
alone_grow [] o p t h e = h e
alone_grow (l ∷ ls) o p t h e = absurd (cc)

alone_some : (ls : List Row) (o : Option Node) (t : Node) → alone ls o ≡ Some t → o ≡ Some t
alone_some [] o t e = e
alone_some (l ∷ ls) o t e = absurd (cc)

beside_grow : (d e i : ℕ) (r : Row) (ls : List Row) (t : Node) → beside d i r ls ≡ Some t → nested t ≤ e → beside e i r ls ≡ Some t
beside_grow d e i r ls t h m = by_kind (begins_text r) h where
  by_kind : (x : Bool) → cond x (text_block i r ls) (alone ls (on_line d r)) ≡ Some t → cond x (text_block i r ls) (alone ls (on_line e r)) ≡ Some t
  by_kind true h = h
  by_kind false h = alone_grow ls (on_line d r) (on_line e r) t (λ g. line_grow d e r t g m) h

beside_bounded : (d i : ℕ) (r : Row) (ls : List Row) (t : Node) → beside d i r ls ≡ Some t → nested t ≤ d
beside_bounded d i r ls t h = by_kind (begins_text r) h where
  by_kind : (x : Bool) → cond x (text_block i r ls) (alone ls (on_line d r)) ≡ Some t → nested t ≤ d
  by_kind true h =
      let q = cond_some (is_header (tail r.content) && list_all (is_text_line i) ls) (Some (scalar [] true r.number)) t h in
      let same : scalar [] true r.number ≡ t = some_same q.1 in
      subst (λ (n : Node). nested n ≤ d) same (omega arith)
  by_kind false h = line_bounded d r t (alone_some ls (on_line d r) t h)

module _ (d e : ℕ) (b c : List Row → Option Node) (h : Grows e b c) where
  choice_grow : (x : Bool) (ls : List Row) (o p : Option Node) (t : Node) → (o ≡ Some t → nested t ≤ e → p ≡ Some t) → cond x (b ls) o ≡ Some t → nested t ≤ e → cond x (c ls) p ≡ Some t
  choice_grow true ls o p t g k n = h ls t k n
  choice_grow false ls o p t g k n = g k n

  item_rest_grow : (i : ℕ) (o : Option Row) (ls : List Row) (t : Node) → item_rest d b i o ls ≡ Some t → nested t ≤ e → item_rest e c i o ls ≡ Some t
  item_rest_grow i None ls t k n = h ls t k n
  item_rest_grow i (Some r) ls t k n = choice_grow (opens_item r) (r ∷ ls) (beside d i r ls) (beside e i r ls) t (beside_grow d e i r ls t) k n

  entry_rest_grow : (i : ℕ) (o : Option Row) (ls : List Row) (t : Node) → entry_rest d b i o ls ≡ Some t → nested t ≤ e → entry_rest e c i o ls ≡ Some t
  entry_rest_grow i None ls t k n = h ls t k n
  entry_rest_grow i (Some r) ls t k n = beside_grow d e i r ls t k n

  entry_with_grow : (g : Group) (o : Read) (p : List ℕ × Node) → entry_with d b g o ≡ Some p → nested p.1 ≤ e → entry_with e c g o ≡ Some p
  entry_with_grow g None p k n = absurd (cc)
  entry_with_grow g (Some y) p k n =
      let kept = cond_some (is_key y.0) (keyed y.0 (entry_rest d b g.head.indent (following g.head.number 0 y.1) g.inside)) p k in
      let q = keyed_some y.0 (entry_rest d b g.head.indent (following g.head.number 0 y.1) g.inside) p kept.1 in
      ap (λ x. cond x (keyed y.0 (entry_rest e c g.head.indent (following g.head.number 0 y.1) g.inside)) None) kept.0
      ∙ ap (keyed y.0) (entry_rest_grow g.head.indent (following g.head.number 0 y.1) g.inside p.1 q.0 n) ∙ ap (λ (j : List ℕ). Some (j, p.1)) (sym q.1)

  step_grow : (l : Row) (ls : List Row) (t : Node) → block_step d b l ls ≡ Some t → nested t ≤ suc e → block_step e c l ls ≡ Some t
  step_grow l ls t k n = by_kind (begins_item l.content) k where
    is_list : option_map list (items_of (item_value d b) (rank l) (groups (rank l) (l ∷ ls))) ≡ Some t → option_map list (items_of (item_value e c) (rank l) (groups (rank l) (l ∷ ls))) ≡ Some t
    is_list k =
        let q = map_some list (items_of (item_value d b) (rank l) (groups (rank l) (l ∷ ls))) t k in
        let deep : suc (items_nested q.0) ≤ suc e = subst (λ (i : Node). nested i ≤ suc e) (sym q.2) n in
        ap (option_map list) (all_grow no_items item nested items_nested (λ n a b. refl) e (item_value d b) (item_value e c) (λ g. item_rest_grow g.head.indent (after_dash g.head) g.inside) (rank l) (groups (rank l) (l ∷ ls)) q.0 q.1 (omega arith)) ∙ ap Some q.2

    is_map : map_of (entries_of (entry_value d b) (rank l) (groups (rank l) (l ∷ ls))) ≡ Some t → map_of (entries_of (entry_value e c) (rank l) (groups (rank l) (l ∷ ls))) ≡ Some t
    is_map k =
        let q = map_of_some (entries_of (entry_value d b) (rank l) (groups (rank l) (l ∷ ls))) t k in
        let deep : suc (entries_nested q.0) ≤ suc e = subst (λ (i : Node). nested i ≤ suc e) (sym q.2) n in
        ap map_of (all_grow no_entries add_pair deep_pair entries_nested (λ n a b. refl) e (entry_value d b) (entry_value e c) (λ g. entry_with_grow g (entry_of g.head.content)) (rank l) (groups (rank l) (l ∷ ls)) q.0 q.1 (omega arith)) ∙ sym (ap map_of q.1) ∙ k

    by_kind : (x : Bool) → cond x (option_map list (items_of (item_value d b) (rank l) (groups (rank l) (l ∷ ls)))) (map_of (entries_of (entry_value d b) (rank l) (groups (rank l) (l ∷ ls)))) ≡ Some t
        → cond x (option_map list (items_of (item_value e c) (rank l) (groups (rank l) (l ∷ ls)))) (map_of (entries_of (entry_value e c) (rank l) (groups (rank l) (l ∷ ls)))) ≡ Some t
    by_kind true k = is_list k
    by_kind false k = is_map k

-- a list or a map nests at least once
step_nests : (d : ℕ) (b : List Row → Option Node) (l : Row) (ls : List Row) (t : Node) → block_step d b l ls ≡ Some t → 0 < nested t
step_nests d b l ls t e = by_kind (begins_item l.content) (items_of (item_value d b) (rank l) (groups (rank l) (l ∷ ls))) (entries_of (entry_value d b) (rank l) (groups (rank l) (l ∷ ls))) e where
  by_kind : (x : Bool) (o : Option Items) (p : Option Entries) → cond x (option_map list o) (map_of p) ≡ Some t → 0 < nested t
  by_kind true None p e = absurd (cc)
  by_kind true (Some is) p e = let q : list is ≡ t = cc in subst (λ (i : Node). 0 < nested i) q (omega arith)
  by_kind false o p e = let q = map_of_some p t e in subst (λ (i : Node). 0 < nested i) q.2 (omega arith)

pub block_grow : (d e : ℕ) → Grows e (block d) (block e)
unfolding block
block_grow d e [] t h n = block-nil e ∙ sym (block-nil d) ∙ h
block_grow zero e (l ∷ ls) t h n = absurd (cc)
block_grow (suc d) zero (l ∷ ls) t h n = let m = step_nests d (block d) l ls t h in absurd (omega arith)
block_grow (suc d) (suc e) (l ∷ ls) t h n = step_grow d e (block d) (block e) (block_grow d e) l ls t h n

abbrev Bounded : ℕ → (List Row → Option Node) → Type 0
Bounded d b = (ls : List Row) (t : Node) → b ls ≡ Some t → nested t ≤ d

module _ {A B : Type 0} (none : B) (put : ℕ → A → B → B) (deep : A → ℕ) (depth : B → ℕ) (split : (n : ℕ) (a : A) (b : B) → depth (put n a b) ≡ max (deep a) (depth b)) (flat : depth none ≡ 0)
    (d : ℕ) (value : Group → Option A) (h : (g : Group) (a : A) → value g ≡ Some a → deep a ≤ d) (r : ℕ) where
  all_bounded : (gs : List Group) (b : B) → all_of none put value r gs ≡ Some b → depth b ≤ d
  all_bounded [] b e = let q : none ≡ b = cc in subst (λ (i : B). depth i ≤ d) q (omega (arith, flat))
  all_bounded (g ∷ gs) b e =
      let p = cond_some (eqb (rank g.head) r) (joined (put g.head.number) (value g) (all_of none put value r gs)) b e in
      let q = joined_some (put g.head.number) (value g) (all_of none put value r gs) b p.1 in
      let first = h g q.0 q.2 in
      let more = all_bounded gs q.1 q.3 in
      subst (λ (i : B). depth i ≤ d) q.4 (omega (arith, first, more, split g.head.number q.0 q.1))

module _ (d : ℕ) (b : List Row → Option Node) (h : Bounded d b) where
  choice_bounded : (x : Bool) (ls : List Row) (o : Option Node) (t : Node) → (o ≡ Some t → nested t ≤ d) → cond x (b ls) o ≡ Some t → nested t ≤ d
  choice_bounded true ls o t g e = h ls t e
  choice_bounded false ls o t g e = g e

  item_rest_bounded : (i : ℕ) (o : Option Row) (ls : List Row) (t : Node) → item_rest d b i o ls ≡ Some t → nested t ≤ d
  item_rest_bounded i None ls t e = h ls t e
  item_rest_bounded i (Some r) ls t e = choice_bounded (opens_item r) (r ∷ ls) (beside d i r ls) t (beside_bounded d i r ls t) e

  entry_rest_bounded : (i : ℕ) (o : Option Row) (ls : List Row) (t : Node) → entry_rest d b i o ls ≡ Some t → nested t ≤ d
  entry_rest_bounded i None ls t e = h ls t e
  entry_rest_bounded i (Some r) ls t e = beside_bounded d i r ls t e

  entry_with_bounded : (g : Group) (o : Read) (p : List ℕ × Node) → entry_with d b g o ≡ Some p → nested p.1 ≤ d
  entry_with_bounded g None p e = absurd (cc)
  entry_with_bounded g (Some y) p e =
      let kept = cond_some (is_key y.0) (keyed y.0 (entry_rest d b g.head.indent (following g.head.number 0 y.1) g.inside)) p e in
      entry_rest_bounded g.head.indent (following g.head.number 0 y.1) g.inside p.1 (keyed_some y.0 (entry_rest d b g.head.indent (following g.head.number 0 y.1) g.inside) p kept.1).0

  step_bounded : (l : Row) (ls : List Row) (t : Node) → block_step d b l ls ≡ Some t → nested t ≤ suc d
  step_bounded l ls t e = by_kind (begins_item l.content) e where
    by_kind : (x : Bool) → cond x (option_map list (items_of (item_value d b) (rank l) (groups (rank l) (l ∷ ls)))) (map_of (entries_of (entry_value d b) (rank l) (groups (rank l) (l ∷ ls)))) ≡ Some t → nested t ≤ suc d
    by_kind true e =
        let q = map_some list (items_of (item_value d b) (rank l) (groups (rank l) (l ∷ ls))) t e in
        let m = all_bounded no_items item nested items_nested (λ n a b. refl) refl d (item_value d b) (λ g. item_rest_bounded g.head.indent (after_dash g.head) g.inside) (rank l) (groups (rank l) (l ∷ ls)) q.0 q.1 in
        subst (λ (i : Node). nested i ≤ suc d) q.2 (omega arith)
    by_kind false e =
        let q = map_of_some (entries_of (entry_value d b) (rank l) (groups (rank l) (l ∷ ls))) t e in
        let m = all_bounded no_entries add_pair deep_pair entries_nested (λ n a b. refl) refl d (entry_value d b) (λ g. entry_with_bounded g (entry_of g.head.content)) (rank l) (groups (rank l) (l ∷ ls)) q.0 q.1 in
        subst (λ (i : Node). nested i ≤ suc d) q.2 (omega arith)

pub block_bounded : (d : ℕ) → Bounded d (block d)
unfolding block
block_bounded d [] t h = let q : null ≡ t = some_same (sym (block-nil d) ∙ h) in subst (λ (i : Node). nested i ≤ d) q (omega arith)
block_bounded zero (l ∷ ls) t h = absurd (cc)
block_bounded (suc d) (l ∷ ls) t h = step_bounded d (block d) (block_bounded d) l ls t h

pub tree_grow : (d e : ℕ) (text : List ℕ) (t : Node) → tree d text ≡ Some t → nested t ≤ e → tree e text ≡ Some t
tree_grow d e text t h n = by_rows (text_rows text) h where
  unmarked : (x : Bool) (r : Row) (rs : List Row) → cond x None (cond (opens r) (block d (r ∷ rs)) (alone rs (on_line d r))) ≡ Some t → cond x None (cond (opens r) (block e (r ∷ rs)) (alone rs (on_line e r))) ≡ Some t
  unmarked true r rs h = absurd (cc)
  unmarked false r rs h =
      choice_grow d e (block d) (block e) (block_grow d e) (opens r) (r ∷ rs) (alone rs (on_line d r)) (alone rs (on_line e r)) t
      (λ k m. alone_grow rs (on_line d r) (on_line e r) t (λ g. line_grow d e r t g m) k) h n

  by_rows : (ls : List Row) → value_of d ls ≡ Some t → value_of e ls ≡ Some t
  by_rows [] h = h
  by_rows (r ∷ rs) h = unmarked (is_marker r) r rs h

pub tree_bounded : (d : ℕ) (text : List ℕ) (t : Node) → tree d text ≡ Some t → nested t ≤ d
tree_bounded d text t h = by_rows (text_rows text) h where
  unmarked : (x : Bool) (r : Row) (rs : List Row) → cond x None (cond (opens r) (block d (r ∷ rs)) (alone rs (on_line d r))) ≡ Some t → nested t ≤ d
  unmarked true r rs h = absurd (cc)
  unmarked false r rs h = choice_bounded d (block d) (block_bounded d) (opens r) (r ∷ rs) (alone rs (on_line d r)) t (λ k. line_bounded d r t (alone_some rs (on_line d r) t k)) h

  by_rows : (ls : List Row) → value_of d ls ≡ Some t → nested t ≤ d
  by_rows [] h = let q : null ≡ t = cc in subst (λ (i : Node). nested i ≤ d) q (omega arith)
  by_rows (r ∷ rs) h = unmarked (is_marker r) r rs h

pub document_within : (text : List ℕ) → length text ≤ 2 ^ 20 → document text ≡ tree 16 text
unfolding document
document_within text h = grind (arith, nat_tests)

pub document_long : (text : List ℕ) → 2 ^ 20 < length text → document text ≡ None
unfolding document
document_long text h = grind (arith, nat_tests)
