-- Keys that are the same are equal, and periods are where they are not told apart by their order.
use Rattle.std.proofs.Common.{◌≡◌, ◌⊎◌, inl, inr, ◌∙◌, refl, sym, ap, subst, ℕ, ◌<◌, Bool, true, false, List, [], ◌∷◌, ◌++◌, eqb-true, eq-eqb, arith, ⊎_elim}
use Rattle.std.specs.Prelude.{◌||◌, ◌&&◌, ◌==◌, nat_lt, IsTrue, cond}
use Rattle.std.specs.Ordering.{eq_by_cmp, is_eq, nat_cmp, ordering_then}
use Rattle.std.specs.declared.cmp.Ordering.{Ordering}
use Rattle.std.specs.declared.cmp.Ordering.TheVariants.{Less, Equal, Greater}
use Rattle.std.proofs.lemmas.Bool.{cases_Bool, false≢true, ltb-true, and_parts}
use Rattle.fisca_time.specs.Period.{Span, eternity, months, days, span_cmp, is_period}
use Rattle.fisca_time.specs.Unit.{rank}
use Rattle.fisca_time.specs.declared.unit.Unit.{Unit}
use Rattle.fisca_time.specs.declared.unit.Unit.TheVariants as unit
use Rattle.fisca_model.specs.Values.{Key}
use Rattle.fisca_key_semantics.specs.Keys.{same_span, same_key, has}

eq_then : (a b : Ordering) → is_eq (ordering_then a b) ≡ (is_eq a && is_eq b)
eq_then Less b = refl
eq_then Equal b = refl
eq_then Greater b = refl

eq_numbers : (x y : ℕ) → is_eq (nat_cmp x y) ≡ (x == y)
eq_numbers x y = by (nat_lt x y) refl (x == y) refl
  where
    by : (l : Bool) → nat_lt x y ≡ l → (e : Bool) → (x == y) ≡ e → is_eq (cond l Less (cond e Equal Greater)) ≡ e
    by true h true k = let same : x ≡ y = eqb-true x y k in let less : x < y = ltb-true x y h in let no : ⊥ = omega (arith, less, same) in absurd no
    by true h false k = refl
    by false h true k = refl
    by false h false k = refl

both_numbers : (a b c d : ℕ) → is_eq (ordering_then (nat_cmp a b) (nat_cmp c d)) ≡ ((a == b) && (c == d))
both_numbers a b c d = eq_then (nat_cmp a b) (nat_cmp c d) ∙ rw (eq_numbers a b, eq_numbers c d) refl

-- the order of periods tells all apart that are not the same
pub same_period : (p q : Span) → IsTrue (is_period p) → IsTrue (is_period q) → eq_by_cmp span_cmp p q ≡ same_span p q
same_period eternity eternity a b = refl
same_period eternity (months unit.Day g m) a b = absurd (false≢true b)
same_period eternity (months unit.Month g m) a b = refl
same_period eternity (months unit.Year g m) a b = refl
same_period eternity (months unit.Eternity g m) a b = absurd (false≢true b)
same_period eternity (days g m) a b = refl
same_period (months unit.Day f n) q a b = absurd (false≢true a)
same_period (months unit.Month f n) eternity a b = refl
same_period (months unit.Year f n) eternity a b = refl
same_period (months unit.Eternity f n) q a b = absurd (false≢true a)
same_period (months u f n) (months v g m) a b =
    eq_then (nat_cmp (rank u) (rank v)) (ordering_then (nat_cmp f g) (nat_cmp n m)) ∙ rw (eq_numbers (rank u) (rank v), both_numbers f g n m) refl
same_period (months unit.Month f n) (days g m) a b = refl
same_period (months unit.Year f n) (days g m) a b = refl
same_period (days f n) eternity a b = refl
same_period (days f n) (months unit.Day g m) a b = absurd (false≢true b)
same_period (days f n) (months unit.Month g m) a b = refl
same_period (days f n) (months unit.Year g m) a b = refl
same_period (days f n) (months unit.Eternity g m) a b = absurd (false≢true b)
same_period (days f n) (days g m) a b = both_numbers f g n m

-- a key behind a list
pub has_behind : (ks : List Key) (last k : Key) → has (ks ++ last ∷ []) k ≡ (has ks k || same_key last k)
has_behind [] last k = or_false (same_key last k)
  where
    or_false : (b : Bool) → (b || false) ≡ (false || b)
    or_false true = refl
    or_false false = refl
has_behind (x ∷ xs) last k = ap (λ b. same_key x k || b) (has_behind xs last k) ∙ or_assoc (same_key x k) (has xs k) (same_key last k)
  where
    or_assoc : (a b c : Bool) → (a || (b || c)) ≡ ((a || b) || c)
    or_assoc true b c = refl
    or_assoc false b c = refl

-- The four facts

same_rank : (u v : Unit) → (rank u == rank v) ≡ true → u ≡ v
same_rank unit.Day unit.Day h = refl
same_rank unit.Month unit.Month h = refl
same_rank unit.Year unit.Year h = refl
same_rank unit.Eternity unit.Eternity h = refl
same_rank unit.Day unit.Month h = absurd (false≢true h)
same_rank unit.Day unit.Year h = absurd (false≢true h)
same_rank unit.Day unit.Eternity h = absurd (false≢true h)
same_rank unit.Month unit.Day h = absurd (false≢true h)
same_rank unit.Month unit.Year h = absurd (false≢true h)
same_rank unit.Month unit.Eternity h = absurd (false≢true h)
same_rank unit.Year unit.Day h = absurd (false≢true h)
same_rank unit.Year unit.Month h = absurd (false≢true h)
same_rank unit.Year unit.Eternity h = absurd (false≢true h)
same_rank unit.Eternity unit.Day h = absurd (false≢true h)
same_rank unit.Eternity unit.Month h = absurd (false≢true h)
same_rank unit.Eternity unit.Year h = absurd (false≢true h)

abbrev months_by : Unit × ℕ × ℕ → Span
months_by t = months t.0 t.1 t.2

abbrev days_by : ℕ × ℕ → Span
days_by t = days t.0 t.1

equal_span : (p q : Span) → same_span p q ≡ true → p ≡ q
equal_span eternity eternity h = refl
equal_span eternity (months v g m) h = absurd (false≢true h)
equal_span eternity (days g m) h = absurd (false≢true h)
equal_span (months u f n) eternity h = absurd (false≢true h)
equal_span (months u f n) (months v g m) h =
    let a = and_parts (rank u == rank v) _ h in
    let b = and_parts (f == g) _ a.1 in
    λ i. months_by (same_rank u v a.0 i, eqb-true f g b.0 i, eqb-true n m b.1 i)
equal_span (months u f n) (days g m) h = absurd (false≢true h)
equal_span (days f n) eternity h = absurd (false≢true h)
equal_span (days f n) (months v g m) h = absurd (false≢true h)
equal_span (days f n) (days g m) h = let a = and_parts (f == g) _ h in λ i. days_by (eqb-true f g a.0 i, eqb-true n m a.1 i)

span_same : (p : Span) → same_span p p ≡ true
span_same eternity = refl
span_same (months u f n) = rw (eq-eqb (rank u) (rank u) refl, eq-eqb f f refl, eq-eqb n n refl) refl
span_same (days f n) = rw (eq-eqb f f refl, eq-eqb n n refl) refl

abbrev key_by : ℕ × ℕ × Span → Key
key_by t = record { variable = t.0; member = t.1; period = t.2 }

pub equal_key : (a b : Key) → same_key a b ≡ true → a ≡ b
equal_key a b h =
    let p = and_parts (a.variable == b.variable) _ h in
    let q = and_parts (a.member == b.member) _ p.1 in
    λ i. key_by (eqb-true a.variable b.variable p.0 i, eqb-true a.member b.member q.0 i, equal_span a.period b.period q.1 i)

pub key_same : (a b : Key) → a ≡ b → same_key a b ≡ true
key_same a b e = subst (λ x. same_key a x ≡ true) e (rw (eq-eqb a.variable a.variable refl, eq-eqb a.member a.member refl, span_same a.period) refl)

pub cases_key : (a b : Key) → (a ≡ b) ⊎ (a ≡ b → ⊥)
cases_key a b = ⊎_elim
    (λ (e : same_key a b ≡ true). inl (equal_key a b e))
    (λ (e : same_key a b ≡ false). inr (λ p. false≢true (sym e ∙ key_same a b p)))
    (cases_Bool (same_key a b))

pub other_key : (a b : Key) → (a ≡ b → ⊥) → same_key a b ≡ false
other_key a b n = ⊎_elim
    (λ (e : same_key a b ≡ true). absurd (n (equal_key a b e)))
    (λ (e : same_key a b ≡ false). e)
    (cases_Bool (same_key a b))
