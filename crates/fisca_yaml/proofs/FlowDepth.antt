-- A value in brackets that is found at any depth is found at its own, and a value found at a depth is no deeper.
use Rattle.std.proofs.Common.{◌≡◌, ℕ, zero, suc, max, ◌≤◌, Bool, true, false, cond, ◌||◌, List, length, Option, Some, None, option_and_then, refl, sym, ap, subst, ◌∙◌, arith}
use Rattle.fisca_yaml.specs.Node.{Node, null, scalar, list, map, keys, repeats, Items, no_items, item, Entries, no_entries, nested, items_nested, entries_nested}
use Rattle.fisca_yaml_scalars.specs.Steps.Rows.{begins, tail}
use Rattle.fisca_yaml_scalars.specs.Scalars.{Read, quoted}
use Rattle.fisca_yaml_scalars.specs.Steps.Scalars.{past_blanks, is_null_word, is_quote}
use Rattle.fisca_yaml.specs.Steps.Leaves.{leaf}
use Rattle.fisca_yaml.specs.Flow.{Parse, parse_map, plain_flow, flow_scalar, after_value, then_more, series, flow_items, flow_entries, flow_entry, entry_then, beside_key, value_or_null, flow_key, add_pair, map_apart, flow_with, flow_value}

some_same : {X : Type 0} {a b : X} → Some a ≡ Some b → a ≡ b
some_same e = cc

parse_some : {A B : Type 0} (f : A → B) (o : Option (A × List ℕ)) (y : B) (r : List ℕ) → parse_map f o ≡ Some (y, r) → (x : A) × (o ≡ Some (x, r)) × (f x ≡ y)
parse_some f None y r e = absurd (cc)
parse_some {A} {B} f (Some p) y r e =
    let both : (f p.0, p.1) ≡ (y, r) = some_same e in
    (p.0, ap (λ (s : List ℕ). Some (p.0, s)) (ap (λ (q : B × List ℕ). q.1) both), ap (λ (q : B × List ℕ). q.0) both)

-- what b gives, no deeper than d, c gives too
abbrev Grows : ℕ → Parse Node → Parse Node → Type 0
Grows d b c = (bs : List ℕ) (t : Node) (r : List ℕ) → b bs ≡ Some (t, r) → nested t ≤ d → c bs ≡ Some (t, r)

abbrev Bounded : ℕ → Parse Node → Type 0
Bounded d b = (bs : List ℕ) (t : Node) (r : List ℕ) → b bs ≡ Some (t, r) → nested t ≤ d

-- series of elements, whose depth is that of the deepest
module _ (A B : Type 0) (close : ℕ) (nil : B) (add : A → B → B) (deep : A → ℕ) (deeps : B → ℕ) (adds : (a : A) (b : B) → deeps (add a b) ≡ max (deep a) (deeps b)) (nil_flat : deeps nil ≡ 0) where
  then_some : (more : Parse B) (a : A) (o : Option (List ℕ)) (b : B) (r : List ℕ) → then_more add more a o ≡ Some (b, r) → (s : List ℕ) × (c : B) × (o ≡ Some s) × (more s ≡ Some (c, r)) × (add a c ≡ b)
  then_some more a None b r e = absurd (cc)
  then_some more a (Some s) b r e = let q = parse_some (add a) (more s) b r e in (s, q.0, refl, q.1, q.2)

  bind_some : (value : Option (A × List ℕ)) (more : Parse B) (b : B) (r : List ℕ) → option_and_then (λ p. then_more add more p.0 (after_value close p.1)) value ≡ Some (b, r)
      → (a : A) × (rest : List ℕ) × (value ≡ Some (a, rest)) × (then_more add more a (after_value close rest) ≡ Some (b, r))
  bind_some None more b r e = absurd (cc)
  bind_some (Some p) more b r e = (p.0, p.1, refl, e)

  module _ (d : ℕ) (element wider : Parse A) (h : (bs : List ℕ) (a : A) (r : List ℕ) → element bs ≡ Some (a, r) → deep a ≤ d → wider bs ≡ Some (a, r)) where
    step_grow : (x : Bool) (more mores : Parse B) (g : (bs : List ℕ) (b : B) (r : List ℕ) → more bs ≡ Some (b, r) → deeps b ≤ d → mores bs ≡ Some (b, r)) (bs : List ℕ) (b : B) (r : List ℕ)
        → cond x (Some (nil, tail bs)) (option_and_then (λ p. then_more add more p.0 (after_value close p.1)) (element bs)) ≡ Some (b, r) → deeps b ≤ d
        → cond x (Some (nil, tail bs)) (option_and_then (λ p. then_more add mores p.0 (after_value close p.1)) (wider bs)) ≡ Some (b, r)
    step_grow true more mores g bs b r e m = e
    step_grow false more mores g bs b r e m =
        let p = bind_some (element bs) more b r e in
        let q = then_some more p.0 (after_value close p.1) b r p.3 in
        let both : max (deep p.0) (deeps q.1) ≤ d = subst (λ (k : ℕ). k ≤ d) (adds p.0 q.1) (subst (λ (i : B). deeps i ≤ d) (sym q.4) m) in
        let first : wider bs ≡ Some (p.0, p.1) = h bs p.0 p.1 p.2 (omega arith) in
        let others : mores q.0 ≡ Some (q.1, r) = g q.0 q.1 r q.3 (omega arith) in
        ap (option_and_then (λ x. then_more add mores x.0 (after_value close x.1))) first ∙ ap (then_more add mores p.0) q.2 ∙ ap (parse_map (add p.0)) others ∙ ap (λ (i : B). Some (i, r)) q.4

    pub series_grow : (f : ℕ) (bs : List ℕ) (b : B) (r : List ℕ) → series close nil add element f bs ≡ Some (b, r) → deeps b ≤ d → series close nil add wider f bs ≡ Some (b, r)
    unfolding series
    series_grow zero bs b r e m = absurd (cc)
    series_grow (suc f) bs b r e m = step_grow (begins close bs) (series close nil add element f) (series close nil add wider f) (series_grow f) bs b r e m

  module _ (d : ℕ) (element : Parse A) (h : (bs : List ℕ) (a : A) (r : List ℕ) → element bs ≡ Some (a, r) → deep a ≤ d) where
    step_bounded : (x : Bool) (more : Parse B) (g : (bs : List ℕ) (b : B) (r : List ℕ) → more bs ≡ Some (b, r) → deeps b ≤ d) (bs : List ℕ) (b : B) (r : List ℕ)
        → cond x (Some (nil, tail bs)) (option_and_then (λ p. then_more add more p.0 (after_value close p.1)) (element bs)) ≡ Some (b, r) → deeps b ≤ d
    step_bounded true more g bs b r e =
        let both : (nil, tail bs) ≡ (b, r) = some_same e in
        let same : nil ≡ b = ap (λ (q : B × List ℕ). q.0) both in
        subst (λ (i : B). deeps i ≤ d) same (omega arith)
    step_bounded false more g bs b r e =
        let p = bind_some (element bs) more b r e in
        let q = then_some more p.0 (after_value close p.1) b r p.3 in
        let first : deep p.0 ≤ d = h bs p.0 p.1 p.2 in
        let others : deeps q.1 ≤ d = g q.0 q.1 r q.3 in
        let both : max (deep p.0) (deeps q.1) ≤ d = omega arith in
        subst (λ (i : B). deeps i ≤ d) q.4 (subst (λ (k : ℕ). k ≤ d) (sym (adds p.0 q.1)) both)

    pub series_bounded : (f : ℕ) (bs : List ℕ) (b : B) (r : List ℕ) → series close nil add element f bs ≡ Some (b, r) → deeps b ≤ d
    unfolding series
    series_bounded zero bs b r e = absurd (cc)
    series_bounded (suc f) bs b r e = step_bounded (begins close bs) (series close nil add element f) (series_bounded f) bs b r e

-- entries
beside_some : (k : List ℕ) (o : Option (Node × List ℕ)) (p : List ℕ × Node) (r : List ℕ) → beside_key k o ≡ Some (p, r) → (v : Node) × (o ≡ Some (v, r)) × ((k, v) ≡ p)
beside_some k None p r e = absurd (cc)
beside_some k (Some q) p r e =
    let both : ((k, q.0), q.1) ≡ (p, r) = some_same e in
    (q.0, ap (λ (s : List ℕ). Some (q.0, s)) (ap (λ (x : (List ℕ × Node) × List ℕ). x.1) both), ap (λ (x : (List ℕ × Node) × List ℕ). x.0) both)

null_grow : (d : ℕ) (x : Bool) (bs cs : List ℕ) (o p : Option (Node × List ℕ)) (t : Node) (r : List ℕ) → (o ≡ Some (t, r) → nested t ≤ d → p ≡ Some (t, r)) → cond x (Some (null, cs)) o ≡ Some (t, r) → nested t ≤ d → cond x (Some (null, cs)) p ≡ Some (t, r)
null_grow d true bs cs o p t r h e m = e
null_grow d false bs cs o p t r h e m = h e m

null_bounded : (d : ℕ) (x : Bool) (cs : List ℕ) (o : Option (Node × List ℕ)) (t : Node) (r : List ℕ) → (o ≡ Some (t, r) → nested t ≤ d) → cond x (Some (null, cs)) o ≡ Some (t, r) → nested t ≤ d
null_bounded d true cs o t r h e =
    let both : (null, cs) ≡ (t, r) = some_same e in
    let same : null ≡ t = ap (λ (q : Node × List ℕ). q.0) both in
    subst (λ (i : Node). nested i ≤ d) same (omega arith)
null_bounded d false cs o t r h e = h e

entry_grow : (d : ℕ) (b c : Parse Node) (h : Grows d b c) (o : Read) (p : List ℕ × Node) (r : List ℕ) → entry_then b o ≡ Some (p, r) → nested p.1 ≤ d → entry_then c o ≡ Some (p, r)
entry_grow d b c h None p r e m = absurd (cc)
entry_grow d b c h (Some k) p r e m =
    let q = beside_some k.0 (value_or_null b k.1) p r e in
    let flat : nested q.0 ≤ d = subst (λ (x : List ℕ × Node). nested x.1 ≤ d) (sym q.2) m in
    ap (beside_key k.0) (null_grow d (begins 44 k.1 || begins 125 k.1) k.1 k.1 (b k.1) (c k.1) q.0 r (h k.1 q.0 r) q.1 flat) ∙ ap (λ (x : List ℕ × Node). Some (x, r)) q.2

entry_bounded : (d : ℕ) (b : Parse Node) (h : Bounded d b) (o : Read) (p : List ℕ × Node) (r : List ℕ) → entry_then b o ≡ Some (p, r) → nested p.1 ≤ d
entry_bounded d b h None p r e = absurd (cc)
entry_bounded d b h (Some k) p r e =
    let q = beside_some k.0 (value_or_null b k.1) p r e in
    subst (λ (x : List ℕ × Node). nested x.1 ≤ d) q.2 (null_bounded d (begins 44 k.1 || begins 125 k.1) k.1 (b k.1) q.0 r (h k.1 q.0 r) q.1)

apart_some : (o : Option (Entries × List ℕ)) (t : Node) (r : List ℕ) → map_apart o ≡ Some (t, r) → (es : Entries) × (o ≡ Some (es, r)) × (map es ≡ t)
apart_some None t r e = absurd (cc)
apart_some (Some p) t r e = kept (repeats (keys p.0)) e where
  kept : (b : Bool) → cond {A = Option (Node × List ℕ)} b None (Some (map p.0, p.1)) ≡ Some (t, r) → (es : Entries) × (Some p ≡ Some (es, r)) × (map es ≡ t)
  kept true e = absurd (cc)
  kept false e =
      let both : (map p.0, p.1) ≡ (t, r) = some_same e in
      (p.0, ap (λ (s : List ℕ). Some (p.0, s)) (ap (λ (q : Node × List ℕ). q.1) both), ap (λ (q : Node × List ℕ). q.0) both)

-- scalars
leaf_flat : (n : ℕ) (t : List ℕ) → nested (leaf n t) ≡ 0
leaf_flat n t = by_word (is_null_word t) where
  by_word : (b : Bool) → nested (cond b null (scalar t false n)) ≡ 0
  by_word true = refl
  by_word false = refl

scalar_flat : (n : ℕ) (bs : List ℕ) (t : Node) (r : List ℕ) → flow_scalar n bs ≡ Some (t, r) → nested t ≡ 0
scalar_flat n bs t r e = by_kind (is_quote bs) e where
  by_kind : (b : Bool) → cond b (parse_map (λ t. scalar t true n) (quoted bs)) (parse_map (leaf n) (plain_flow bs)) ≡ Some (t, r) → nested t ≡ 0
  by_kind true e = let q = parse_some (λ t. scalar t true n) (quoted bs) t r e in ap nested (sym q.2)
  by_kind false e = let q = parse_some (leaf n) (plain_flow bs) t r e in ap nested (sym q.2) ∙ leaf_flat n q.0

module _ (d : ℕ) (items wideri : Parse Items) (entries widere : Parse Entries) (n : ℕ) (g : (bs : List ℕ) (is : Items) (r : List ℕ) → items bs ≡ Some (is, r) → items_nested is ≤ d → wideri bs ≡ Some (is, r))
    (h : (bs : List ℕ) (es : Entries) (r : List ℕ) → entries bs ≡ Some (es, r) → entries_nested es ≤ d → widere bs ≡ Some (es, r)) where
  with_grow : (bs : List ℕ) (t : Node) (r : List ℕ) → flow_with items entries n bs ≡ Some (t, r) → nested t ≤ suc d → flow_with wideri widere n bs ≡ Some (t, r)
  with_grow bs t r e m = by_kind (begins 91 bs) (begins 123 bs) e where
    inside : List ℕ
    inside = past_blanks false (tail bs)

    by_kind : (x y : Bool) → cond x (parse_map list (items (past_blanks false (tail bs)))) (cond y (map_apart (entries (past_blanks false (tail bs)))) (flow_scalar n bs)) ≡ Some (t, r)
        → cond x (parse_map list (wideri (past_blanks false (tail bs)))) (cond y (map_apart (widere (past_blanks false (tail bs)))) (flow_scalar n bs)) ≡ Some (t, r)
    by_kind true y e =
        let q = parse_some list (items (past_blanks false (tail bs))) t r e in
        let deep : suc (items_nested q.0) ≤ suc d = subst (λ (i : Node). nested i ≤ suc d) (sym q.2) m in
        ap (parse_map list) (g (past_blanks false (tail bs)) q.0 r q.1 (omega arith)) ∙ ap (λ (i : Node). Some (i, r)) q.2
    by_kind false true e =
        let q = apart_some (entries (past_blanks false (tail bs))) t r e in
        let deep : suc (entries_nested q.0) ≤ suc d = subst (λ (i : Node). nested i ≤ suc d) (sym q.2) m in
        ap map_apart (h (past_blanks false (tail bs)) q.0 r q.1 (omega arith)) ∙ sym (ap map_apart q.1) ∙ e
    by_kind false false e = e

-- with no level left only a scalar is read
with_flat : (items : Parse Items) (entries : Parse Entries) (n : ℕ) (bs : List ℕ) (t : Node) (r : List ℕ) → flow_with (λ cs. None) (λ cs. None) n bs ≡ Some (t, r) → flow_with items entries n bs ≡ Some (t, r)
with_flat items entries n bs t r e = by_kind (begins 91 bs) (begins 123 bs) e where
  by_kind : (x y : Bool) → cond x None (cond y None (flow_scalar n bs)) ≡ Some (t, r) → cond x (parse_map list (items (past_blanks false (tail bs)))) (cond y (map_apart (entries (past_blanks false (tail bs)))) (flow_scalar n bs)) ≡ Some (t, r)
  by_kind true y e = absurd (cc)
  by_kind false true e = absurd (cc)
  by_kind false false e = e

flat_bounded : (n : ℕ) (bs : List ℕ) (t : Node) (r : List ℕ) → flow_with (λ cs. None) (λ cs. None) n bs ≡ Some (t, r) → nested t ≤ 0
flat_bounded n bs t r e = by_kind (begins 91 bs) (begins 123 bs) e where
  by_kind : (x y : Bool) → cond x None (cond y None (flow_scalar n bs)) ≡ Some (t, r) → nested t ≤ 0
  by_kind true y e = absurd (cc)
  by_kind false true e = absurd (cc)
  by_kind false false e = let z = scalar_flat n bs t r e in omega arith

-- a value with no level is a scalar
with_shallow : (items : Parse Items) (entries : Parse Entries) (n : ℕ) (bs : List ℕ) (t : Node) (r : List ℕ) → flow_with items entries n bs ≡ Some (t, r) → nested t ≤ 0 → flow_with (λ cs. None) (λ cs. None) n bs ≡ Some (t, r)
with_shallow items entries n bs t r e m = by_kind (begins 91 bs) (begins 123 bs) e where
  by_kind : (x y : Bool) → cond x (parse_map list (items (past_blanks false (tail bs)))) (cond y (map_apart (entries (past_blanks false (tail bs)))) (flow_scalar n bs)) ≡ Some (t, r) → cond x None (cond y None (flow_scalar n bs)) ≡ Some (t, r)
  by_kind true y e =
      let q = parse_some list (items (past_blanks false (tail bs))) t r e in
      let deep : suc (items_nested q.0) ≤ 0 = subst (λ (i : Node). nested i ≤ 0) (sym q.2) m in
      absurd (omega arith)
  by_kind false true e =
      let q = apart_some (entries (past_blanks false (tail bs))) t r e in
      let deep : suc (entries_nested q.0) ≤ 0 = subst (λ (i : Node). nested i ≤ 0) (sym q.2) m in
      absurd (omega arith)
  by_kind false false e = e

with_bounded : (d : ℕ) (items : Parse Items) (entries : Parse Entries) (n : ℕ) → ((bs : List ℕ) (is : Items) (r : List ℕ) → items bs ≡ Some (is, r) → items_nested is ≤ d)
    → ((bs : List ℕ) (es : Entries) (r : List ℕ) → entries bs ≡ Some (es, r) → entries_nested es ≤ d) → (bs : List ℕ) (t : Node) (r : List ℕ) → flow_with items entries n bs ≡ Some (t, r) → nested t ≤ suc d
with_bounded d items entries n g h bs t r e = by_kind (begins 91 bs) (begins 123 bs) e where
  by_kind : (x y : Bool) → cond x (parse_map list (items (past_blanks false (tail bs)))) (cond y (map_apart (entries (past_blanks false (tail bs)))) (flow_scalar n bs)) ≡ Some (t, r) → nested t ≤ suc d
  by_kind true y e =
      let q = parse_some list (items (past_blanks false (tail bs))) t r e in
      let deep = g (past_blanks false (tail bs)) q.0 r q.1 in
      subst (λ (i : Node). nested i ≤ suc d) q.2 (omega arith)
  by_kind false true e =
      let q = apart_some (entries (past_blanks false (tail bs))) t r e in
      let deep = h (past_blanks false (tail bs)) q.0 r q.1 in
      subst (λ (i : Node). nested i ≤ suc d) q.2 (omega arith)
  by_kind false false e = let z = scalar_flat n bs t r e in omega arith

abbrev pub deep_pair : List ℕ × Node → ℕ
deep_pair p = nested p.1

items_grow : (d n : ℕ) (b c : Parse Node) → Grows d b c → (bs : List ℕ) (is : Items) (r : List ℕ) → flow_items b n bs ≡ Some (is, r) → items_nested is ≤ d → flow_items c n bs ≡ Some (is, r)
items_grow d n b c h bs = series_grow Node Items 93 no_items (item n) nested items_nested (λ a s. refl) refl d b c h (length bs) bs

entries_grow : (d n : ℕ) (b c : Parse Node) → Grows d b c → (bs : List ℕ) (es : Entries) (r : List ℕ) → flow_entries b n bs ≡ Some (es, r) → entries_nested es ≤ d → flow_entries c n bs ≡ Some (es, r)
entries_grow d n b c h bs = series_grow (List ℕ × Node) Entries 125 no_entries (add_pair n) deep_pair entries_nested (λ a s. refl) refl d (flow_entry b) (flow_entry c) (λ cs. entry_grow d b c h (flow_key cs)) (length bs) bs

items_bounded : (d n : ℕ) (b : Parse Node) → Bounded d b → (bs : List ℕ) (is : Items) (r : List ℕ) → flow_items b n bs ≡ Some (is, r) → items_nested is ≤ d
items_bounded d n b h bs = series_bounded Node Items 93 no_items (item n) nested items_nested (λ a s. refl) refl d b h (length bs) bs

entries_bounded : (d n : ℕ) (b : Parse Node) → Bounded d b → (bs : List ℕ) (es : Entries) (r : List ℕ) → flow_entries b n bs ≡ Some (es, r) → entries_nested es ≤ d
entries_bounded d n b h bs = series_bounded (List ℕ × Node) Entries 125 no_entries (add_pair n) deep_pair entries_nested (λ a s. refl) refl d (flow_entry b) (λ cs. entry_bounded d b h (flow_key cs)) (length bs) bs

pub flow_grow : (d e n : ℕ) → Grows e (flow_value d n) (flow_value e n)
unfolding flow_value
flow_grow zero zero n bs t r h m = h
flow_grow zero (suc e) n bs t r h m = with_flat (flow_items (flow_value e n) n) (flow_entries (flow_value e n) n) n bs t r h
flow_grow (suc d) zero n bs t r h m = with_shallow (flow_items (flow_value d n) n) (flow_entries (flow_value d n) n) n bs t r h m
flow_grow (suc d) (suc e) n bs t r h m =
    with_grow e (flow_items (flow_value d n) n) (flow_items (flow_value e n) n) (flow_entries (flow_value d n) n) (flow_entries (flow_value e n) n) n
    (items_grow e n (flow_value d n) (flow_value e n) (flow_grow d e n)) (entries_grow e n (flow_value d n) (flow_value e n) (flow_grow d e n)) bs t r h m

pub flow_bounded : (d n : ℕ) → Bounded d (flow_value d n)
unfolding flow_value
flow_bounded zero n bs t r h = flat_bounded n bs t r h
flow_bounded (suc d) n bs t r h = with_bounded d (flow_items (flow_value d n) n) (flow_entries (flow_value d n) n) n (items_bounded d n (flow_value d n) (flow_bounded d n)) (entries_bounded d n (flow_value d n) (flow_bounded d n)) bs t r h

pub leaf_nests : (n : ℕ) (t : List ℕ) → nested (leaf n t) ≡ 0
leaf_nests = leaf_flat
