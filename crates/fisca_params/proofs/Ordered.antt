-- Files in a map by path and place, which go in one after another.
use Rattle.std.proofs.Common.{◌≡◌, ℕ, ◌<◌, Bool, true, false, cond, List, [], ◌∷◌, map, refl, sym, ◌∙◌, ap, arith}
use Rattle.std.specs.BTreeMap.{insert_entry}
use Rattle.std.specs.Cmp.{nat_cmp_is}
use Rattle.std.specs.Cmp.Lexicographic.{slice_cmp}
use Rattle.std.specs.Ordering.{nat_cmp, ordering_then, is_lt, match_ordering}
use Rattle.std.specs.declared.cmp.Ordering.{Ordering}
use Rattle.std.specs.declared.cmp.Ordering.TheVariants.{Less, Equal, Greater}
use Rattle.fisca_params.specs.Source.{Source}
use Rattle.fisca_params.specs.Files.{Placed}
use Rattle.fisca_params.specs.Steps.Files.{is_path_before, put_by_path}
use denote.Ref.{Bor}

abbrev pub Key : Type 0
Key = Bor (List ℕ) × ℕ

abbrev pub Entry : Type 0
Entry = Key × Bor Source

-- by path, then place
abbrev pub key_cmp : Key → Key → Ordering
key_cmp a b = ordering_then (slice_cmp nat_cmp a.0.now b.0.now) (nat_cmp a.1 b.1)

abbrev pub placed_of : Entry → Placed
placed_of e = (e.0.1, e.1.now)

-- each stands under its own path, and under a place before n
abbrev pub Kept : ℕ → List Entry → Type 0
Kept n [] = Unit
Kept n (e ∷ es) = (e.0.0.now ≡ e.1.now.path) × (e.0.1 < n) × Kept n es

before_or_behind : {X : Type 0} (o : Ordering) (a b c : X) → match_ordering (ordering_then o Greater) a b c ≡ cond (is_lt o) a c
before_or_behind Less a b c = refl
before_or_behind Equal a b c = refl
before_or_behind Greater a b c = refl

-- a later place goes behind the same path
insert-behind : (e : Entry) (es : List Entry) (k : Key) (f : Bor Source) → e.0.1 < k.1 →
    insert_entry key_cmp (e ∷ es) k f ≡ cond (is_lt (slice_cmp nat_cmp k.0.now e.0.0.now)) ((k, f) ∷ e ∷ es) (e ∷ insert_entry key_cmp es k f)
insert-behind e es k f p =
    let later : Greater ≡ nat_cmp k.1 e.0.1 = nat_cmp_is k.1 e.0.1 Greater p in
    ap (λ o. match_ordering (ordering_then (slice_cmp nat_cmp k.0.now e.0.0.now) o) ((k, f) ∷ e ∷ es) ((e.0, f) ∷ es) (e ∷ insert_entry key_cmp es k f)) (sym later)
    ∙ before_or_behind (slice_cmp nat_cmp k.0.now e.0.0.now) ((k, f) ∷ e ∷ es) ((e.0, f) ∷ es) (e ∷ insert_entry key_cmp es k f)

map-cond : (v : Bool) (xs ys : List Entry) → map placed_of (cond v xs ys) ≡ cond v (map placed_of xs) (map placed_of ys)
map-cond true xs ys = refl
map-cond false xs ys = refl

pub insert-in_order : (es : List Entry) (k : Key) (f : Bor Source) → Kept k.1 es → k.0.now ≡ f.now.path →
    map placed_of (insert_entry key_cmp es k f) ≡ put_by_path (k.1, f.now) (map placed_of es)
insert-in_order [] k f h own = refl
insert-in_order (e ∷ es) k f h own =
    ap (map placed_of) (insert-behind e es k f h.1)
    ∙ map-cond (is_lt (slice_cmp nat_cmp k.0.now e.0.0.now)) ((k, f) ∷ e ∷ es) (e ∷ insert_entry key_cmp es k f)
    ∙ ap (λ p. cond (is_lt (slice_cmp nat_cmp p e.0.0.now)) ((k.1, f.now) ∷ placed_of e ∷ map placed_of es) (placed_of e ∷ map placed_of (insert_entry key_cmp es k f))) own
    ∙ ap (λ p. cond (is_lt (slice_cmp nat_cmp f.now.path p)) ((k.1, f.now) ∷ placed_of e ∷ map placed_of es) (placed_of e ∷ map placed_of (insert_entry key_cmp es k f))) h.0
    ∙ ap (λ gs. cond (is_path_before f.now.path e.1.now.path) ((k.1, f.now) ∷ placed_of e ∷ map placed_of es) (placed_of e ∷ gs)) (insert-in_order es k f h.2 own)

Kept-more : (n m : ℕ) (es : List Entry) → n < m → Kept n es → Kept m es
Kept-more n m [] p h = h
Kept-more n m (e ∷ es) p h = (h.0, omega (arith, h.1), Kept-more n m es p h.2)

Kept-cond : (v : Bool) (m : ℕ) (xs ys : List Entry) → Kept m xs → Kept m ys → Kept m (cond v xs ys)
Kept-cond true m xs ys h k = h
Kept-cond false m xs ys h k = k

pub Kept-insert : (es : List Entry) (k : Key) (f : Bor Source) (m : ℕ) → Kept k.1 es → k.0.now ≡ f.now.path → k.1 < m → Kept m (insert_entry key_cmp es k f)
Kept-insert [] k f m h own p = (own, p, h)
Kept-insert (e ∷ es) k f m h own p =
    let old : Kept m (e ∷ es) = Kept-more k.1 m (e ∷ es) p h in
    rw (insert-behind e es k f h.1) (Kept-cond (is_lt (slice_cmp nat_cmp k.0.now e.0.0.now)) m ((k, f) ∷ e ∷ es) (e ∷ insert_entry key_cmp es k f) (own, p, old) (old.0, old.1, Kept-insert es k f m h.2 own p))
