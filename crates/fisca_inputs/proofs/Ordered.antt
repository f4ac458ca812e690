-- Given inputs in a map by rank, which go in one after another.
use Rattle.std.proofs.Common.{◌≡◌, ℕ, ◌<◌, Bool, true, false, cond, List, [], ◌∷◌, map, refl, sym, ◌∙◌, ap, arith}
use Rattle.std.specs.BTreeMap.{insert_entry}
use Rattle.std.specs.Cmp.{nat_cmp_is}
use Rattle.std.specs.Option.{option_cmp}
use Rattle.std.specs.Ordering.{nat_cmp, ordering_then, is_lt, match_ordering}
use Rattle.std.specs.declared.cmp.Ordering.{Ordering}
use Rattle.std.specs.declared.cmp.Ordering.TheVariants.{Less, Equal, Greater}
use Rattle.fisca_time.specs.Instant.{date_cmp}
use Rattle.fisca_time.specs.Period.{start_of, unit_of}
use Rattle.fisca_time.specs.Unit.{unit_cmp}
use Rattle.fisca_inputs.specs.Steps.Order.{length_of, given_cmp, put_in_order}
use Rattle.fisca_inputs.specs.Ranks.{Rank, rank_cmp}
use Rattle.fisca_inputs.specs.Rules.{Rule}
use Rattle.fisca_inputs.specs.declared.given.Given.{Given}
use denote.Ref.{Bor}

abbrev pub Entry : Type 0
Entry = Rank × Bor Given

abbrev pub given_of : Entry → Given
given_of e = e.1.now

pub record IsRank (rules : List Rule) (r : Rank) (g : Given) : Type 0 where
  pub length : r.0 ≡ length_of rules g
  pub start : r.1.0 ≡ start_of g.period
  pub unit : r.1.1.0 ≡ unit_of g.period

-- each stands under its own rank, at a place before n
abbrev pub Kept : List Rule → ℕ → List Entry → Type 0
Kept rules n [] = Unit
Kept rules n (e ∷ es) = IsRank rules e.0 e.1.now × (e.0.1.1.1 < n) × Kept rules n es

before_or_behind : {X : Type 0} (o p q : Ordering) (a b c : X)
    → match_ordering (ordering_then o (ordering_then p (ordering_then q Greater))) a b c ≡ cond (is_lt (ordering_then o (ordering_then p q))) a c
before_or_behind Less p q a b c = refl
before_or_behind Equal Less q a b c = refl
before_or_behind Equal Equal Less a b c = refl
before_or_behind Equal Equal Equal a b c = refl
before_or_behind Equal Equal Greater a b c = refl
before_or_behind Equal Greater q a b c = refl
before_or_behind Greater p q a b c = refl

ranks : (rules : List Rule) (r s : Rank) (g h : Given) → IsRank rules r g → IsRank rules s h
    → ordering_then (nat_cmp r.0 s.0) (ordering_then (option_cmp date_cmp r.1.0 s.1.0) (unit_cmp r.1.1.0 s.1.1.0)) ≡ given_cmp rules g h
ranks rules r s g h a b = λ i. ordering_then (nat_cmp (a.length i) (b.length i)) (ordering_then (option_cmp date_cmp (a.start i) (b.start i)) (unit_cmp (a.unit i) (b.unit i)))

-- a later place goes behind what the order does not tell apart from it
insert-behind : (rules : List Rule) (e : Entry) (es : List Entry) (r : Rank) (f : Bor Given) → IsRank rules r f.now → IsRank rules e.0 e.1.now → e.0.1.1.1 < r.1.1.1 →
    insert_entry rank_cmp (e ∷ es) r f ≡ cond (is_lt (given_cmp rules f.now e.1.now)) ((r, f) ∷ e ∷ es) (e ∷ insert_entry rank_cmp es r f)
insert-behind rules e es r f own other p =
    let later : Greater ≡ nat_cmp r.1.1.1 e.0.1.1.1 = nat_cmp_is r.1.1.1 e.0.1.1.1 Greater p in
    let o = nat_cmp r.0 e.0.0 in
    let s = option_cmp date_cmp r.1.0 e.0.1.0 in
    let u = unit_cmp r.1.1.0 e.0.1.1.0 in
    ap (λ z. match_ordering (ordering_then o (ordering_then s (ordering_then u z))) ((r, f) ∷ e ∷ es) ((e.0, f) ∷ es) (e ∷ insert_entry rank_cmp es r f)) (sym later)
    ∙ before_or_behind o s u ((r, f) ∷ e ∷ es) ((e.0, f) ∷ es) (e ∷ insert_entry rank_cmp es r f)
    ∙ ap (λ z. cond (is_lt z) ((r, f) ∷ e ∷ es) (e ∷ insert_entry rank_cmp es r f)) (ranks rules r e.0 f.now e.1.now own other)

map-cond : (v : Bool) (xs ys : List Entry) → map given_of (cond v xs ys) ≡ cond v (map given_of xs) (map given_of ys)
map-cond true xs ys = refl
map-cond false xs ys = refl

pub insert-in_order : (rules : List Rule) (es : List Entry) (r : Rank) (f : Bor Given) → Kept rules r.1.1.1 es → IsRank rules r f.now →
    map given_of (insert_entry rank_cmp es r f) ≡ put_in_order rules f.now (map given_of es)
insert-in_order rules [] r f h own = refl
insert-in_order rules (e ∷ es) r f h own =
    ap (map given_of) (insert-behind rules e es r f own h.0 h.1)
    ∙ map-cond (is_lt (given_cmp rules f.now e.1.now)) ((r, f) ∷ e ∷ es) (e ∷ insert_entry rank_cmp es r f)
    ∙ ap (λ gs. cond (is_lt (given_cmp rules f.now e.1.now)) (f.now ∷ given_of e ∷ map given_of es) (given_of e ∷ gs)) (insert-in_order rules es r f h.2 own)

Kept-more : (rules : List Rule) (n m : ℕ) (es : List Entry) → n < m → Kept rules n es → Kept rules m es
Kept-more rules n m [] p h = h
Kept-more rules n m (e ∷ es) p h = (h.0, omega (arith, h.1), Kept-more rules n m es p h.2)

Kept-cond : (rules : List Rule) (v : Bool) (m : ℕ) (xs ys : List Entry) → Kept rules m xs → Kept rules m ys → Kept rules m (cond v xs ys)
Kept-cond rules true m xs ys h k = h
Kept-cond rules false m xs ys h k = k

pub Kept-insert : (rules : List Rule) (es : List Entry) (r : Rank) (f : Bor Given) (m : ℕ) → Kept rules r.1.1.1 es → IsRank rules r f.now → r.1.1.1 < m
    → Kept rules m (insert_entry rank_cmp es r f)
Kept-insert rules [] r f m h own p = (own, p, h)
Kept-insert rules (e ∷ es) r f m h own p =
    let old : Kept rules m (e ∷ es) = Kept-more rules r.1.1.1 m (e ∷ es) p h in
    rw (insert-behind rules e es r f own h.0 h.1) (Kept-cond rules (is_lt (given_cmp rules f.now e.1.now)) m ((r, f) ∷ e ∷ es) (e ∷ insert_entry rank_cmp es r f) (own, p, old) (old.0, old.1, Kept-insert rules es r f m h.2 own p))
