-- Brackets in a map by threshold and place, which go in from the last to the first.
use Rattle.std.proofs.Common.{◌≡◌, ℕ, ◌+◌, ◌<◌, ◌≤◌, Bool, true, false, not, ◌||◌, cond, List, [], ◌∷◌, drop, drop-cons, add-one, get_or, length, suc, map, refl, sym, ◌∙◌, ap, Option, Some, None, Result, Err, arith}
use Rattle.std.specs.BTreeMap.{insert_entry}
use Rattle.std.specs.List.{filter_map}
use Rattle.std.specs.Cmp.{nat_cmp_is}
use Rattle.std.specs.Option.{unwrap_or}
use Rattle.std.specs.Ordering.{nat_cmp, ordering_then, is_lt, is_eq, is_gt, match_ordering}
use Rattle.std.specs.declared.cmp.Ordering.{Ordering}
use Rattle.std.specs.declared.cmp.Ordering.TheVariants.{Less, Equal, Greater}
use Rattle.fisca_num.specs.Number.{Number, number_cmp}
use Rattle.fisca_scales.specs.Scale.{put_in_order, in_order, has_equal}
use Rattle.fisca_scales.specs.Steps.Scale.{is_below}
use Rattle.fisca_scales.specs.Sorted.{bracket_of}
use Rattle.fisca_scales.specs.Steps.Tally.{answer_of, rises_from, sum_if_distinct, sum_if_rising, tally_of}
use Rattle.fisca_scales.specs.declared.bracket.Bracket.{Bracket}
use Rattle.fisca_scales.specs.declared.bracket.CompleteBracket.{CompleteBracket}
use Rattle.fisca_scales.specs.declared.fault.ParamFault.{ParamFault}
use Rattle.fisca_scales.specs.declared.fault.ParamFault.TheVariants as fault
use Rattle.fisca_scales.specs.declared.tally.Tally.{Tally}
use Rattle.fisca_scales.proofs.Thresholds.{Sorted, below-gt}

abbrev pub Key : Type 0
Key = Number × ℕ

abbrev pub Entry : Type 0
Entry = Key × Number

-- by threshold, then place
abbrev pub key_cmp : Key → Key → Ordering
key_cmp a b = ordering_then (number_cmp a.0 b.0) (nat_cmp a.1 b.1)

-- each stands at a place from n on
abbrev pub Kept : ℕ → List Entry → Type 0
Kept n [] = Unit {0}
Kept n (e ∷ es) = (n ≤ e.0.1) × Kept n es

ahead_or_behind : {X : Type 0} (o : Ordering) (a b c : X) → match_ordering (ordering_then o Less) a b c ≡ cond (is_gt o) c a
ahead_or_behind Less a b c = refl
ahead_or_behind Equal a b c = refl
ahead_or_behind Greater a b c = refl

-- an earlier place goes ahead of the same threshold
insert-ahead : (e : Entry) (es : List Entry) (k : Key) (v : Number) → k.1 < e.0.1 →
    insert_entry key_cmp (e ∷ es) k v ≡ cond (is_below e.0.0 k.0) (e ∷ insert_entry key_cmp es k v) ((k, v) ∷ e ∷ es)
insert-ahead e es k v p =
    let earlier : Less ≡ nat_cmp k.1 e.0.1 = nat_cmp_is k.1 e.0.1 Less p in
    ap (λ o. match_ordering (ordering_then (number_cmp k.0 e.0.0) o) ((k, v) ∷ e ∷ es) ((e.0, v) ∷ es) (e ∷ insert_entry key_cmp es k v)) (sym earlier)
    ∙ ahead_or_behind (number_cmp k.0 e.0.0) ((k, v) ∷ e ∷ es) ((e.0, v) ∷ es) (e ∷ insert_entry key_cmp es k v)
    ∙ ap (λ below. cond below (e ∷ insert_entry key_cmp es k v) ((k, v) ∷ e ∷ es)) (sym (below-gt k.0 e.0.0))

map-cond : (v : Bool) (xs ys : List Entry) → map bracket_of (cond v xs ys) ≡ cond v (map bracket_of xs) (map bracket_of ys)
map-cond true xs ys = refl
map-cond false xs ys = refl

pub insert-in_order : (es : List Entry) (k : Key) (v : Number) → Kept (k.1 + 1) es →
    map bracket_of (insert_entry key_cmp es k v) ≡ put_in_order (record { threshold = k.0; value = v }) (map bracket_of es)
insert-in_order [] k v h = refl
insert-in_order (e ∷ es) k v h =
    let earlier : k.1 < e.0.1 = omega (arith, h.0) in
    ap (map bracket_of) (insert-ahead e es k v earlier)
    ∙ map-cond (is_below e.0.0 k.0) (e ∷ insert_entry key_cmp es k v) ((k, v) ∷ e ∷ es)
    ∙ ap (λ bs. cond (is_below e.0.0 k.0) (bracket_of e ∷ bs) (bracket_of (k, v) ∷ bracket_of e ∷ map bracket_of es)) (insert-in_order es k v h.1)

pub Kept-less : (n m : ℕ) (es : List Entry) → n ≤ m → Kept m es → Kept n es
Kept-less n m [] p h = h
Kept-less n m (e ∷ es) p h = (omega (arith, p, h.0), Kept-less n m es p h.1)

Kept-cond : (v : Bool) (n : ℕ) (xs ys : List Entry) → Kept n xs → Kept n ys → Kept n (cond v xs ys)
Kept-cond true n xs ys h k = h
Kept-cond false n xs ys h k = k

pub Kept-insert : (es : List Entry) (k : Key) (v : Number) → Kept (k.1 + 1) es → Kept k.1 (insert_entry key_cmp es k v)
Kept-insert [] k v h = (omega arith, tt)
Kept-insert (e ∷ es) k v h =
    let earlier : k.1 < e.0.1 = omega (arith, h.0) in
    let own : k.1 ≤ k.1 = omega arith in
    let old : Kept k.1 (e ∷ es) = Kept-less k.1 (k.1 + 1) (e ∷ es) (omega arith) h in
    rw (insert-ahead e es k v earlier) (Kept-cond (is_below e.0.0 k.0) k.1 (e ∷ insert_entry key_cmp es k v) ((k, v) ∷ e ∷ es) (old.0, Kept-insert es k v h.1) (own, old))

-- one bracket more from the end

bracket_at : (bs : List Bracket) (i : ℕ) (b : Bracket) → i < length bs → b ≡ get_or bs i b → drop i bs ≡ b ∷ drop (i + 1) bs
bracket_at bs i b inside is = rw add-one (drop-cons bs i b inside ∙ ap (λ (c : Bracket). c ∷ drop (suc i) bs) (sym is))

complete_first : (f : Bracket → Option CompleteBracket) (b : Bracket) (bs : List Bracket) (x : CompleteBracket) → f b ≡ Some x → filter_map f (b ∷ bs) ≡ x ∷ filter_map f bs
complete_first f b bs x e = rw e refl

not_complete : (f : Bracket → Option CompleteBracket) (b : Bracket) (bs : List Bracket) → f b ≡ None → filter_map f (b ∷ bs) ≡ filter_map f bs
not_complete f b bs e = rw e refl

pub one_more : (f : Bracket → Option CompleteBracket) (bs : List Bracket) (i : ℕ) (b : Bracket) (x : CompleteBracket) (es : List Entry) →
    i < length bs → b ≡ get_or bs i b → f b ≡ Some x → Kept (i + 1) es → map bracket_of es ≡ in_order (filter_map f (drop (i + 1) bs)) →
    map bracket_of (insert_entry key_cmp es (x.threshold, i) x.value) ≡ in_order (filter_map f (drop i bs))
one_more f bs i b x es inside is e kept h =
    insert-in_order es (x.threshold, i) x.value kept
    ∙ ap (put_in_order x) h
    ∙ sym (ap in_order (ap (filter_map f) (bracket_at bs i b inside is) ∙ complete_first f b (drop (i + 1) bs) x e))

pub none_more : (f : Bracket → Option CompleteBracket) (bs : List Bracket) (i : ℕ) (b : Bracket) (es : List Entry) →
    i < length bs → b ≡ get_or bs i b → f b ≡ None → map bracket_of es ≡ in_order (filter_map f (drop (i + 1) bs)) →
    map bracket_of es ≡ in_order (filter_map f (drop i bs))
none_more f bs i b es inside is e h =
    h ∙ sym (ap in_order (ap (filter_map f) (bracket_at bs i b inside is) ∙ not_complete f b (drop (i + 1) bs) e))

-- brackets in order rise exactly where no two have one threshold

lt_or_eq : (o : Ordering) → is_gt o ≡ false → is_lt o ≡ not (is_eq o)
lt_or_eq Less p = refl
lt_or_eq Equal p = refl
lt_or_eq Greater p = cc

not-or : (v w : Bool) → cond (not v) (not w) false ≡ not (v || w)
not-or true w = refl
not-or false w = refl

rises_behind : (b : CompleteBracket) (bs : List CompleteBracket) → Sorted (b ∷ bs) → rises_from (Some b) bs ≡ not (has_equal (b ∷ bs))
rises_behind b [] h = refl
rises_behind b (c ∷ cs) h =
    let up : is_below b.threshold c.threshold ≡ not (is_eq (number_cmp b.threshold c.threshold)) =
    lt_or_eq (number_cmp b.threshold c.threshold) (sym (below-gt b.threshold c.threshold) ∙ h.0.0) in
    ap (λ v. cond v (rises_from (Some c) cs) false) up
    ∙ ap (λ w. cond (not (is_eq (number_cmp b.threshold c.threshold))) w false) (rises_behind c cs h.1)
    ∙ not-or (is_eq (number_cmp b.threshold c.threshold)) (has_equal (c ∷ cs))

rises : (bs : List CompleteBracket) → Sorted bs → rises_from None bs ≡ not (has_equal bs)
rises [] h = refl
rises (b ∷ bs) h = rises_behind b bs h

picked : {X : Type 0} (v : Bool) (x y : X) → unwrap_or (cond (not v) (Some x) None) y ≡ cond v y x
picked true x y = refl
picked false x y = refl

-- so the sum over those that rise is that over those that are distinct
pub sum-or_shared : (t : Tally) (bs : List CompleteBracket) → t.last ≡ None → Sorted bs →
    unwrap_or (sum_if_rising t bs) (Err fault.BadScale) ≡ sum_if_distinct t bs
sum-or_shared t bs none h =
    let sum : Result Number ParamFault = answer_of (tally_of t bs) in
    ap (λ last. unwrap_or (cond (rises_from last bs) (Some sum) None) (Err fault.BadScale)) none
    ∙ ap (λ v. unwrap_or (cond v (Some sum) None) (Err fault.BadScale)) (rises bs h)
    ∙ picked (has_equal bs) sum (Err fault.BadScale)
