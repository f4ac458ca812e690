-- The marks of a variable are the wheels of its slots, and no others.
use Rattle.std.proofs.Common.{◌≡◌, ◌≢◌, ◌⊎◌, inl, inr, ℕ, zero, suc, ◌+◌, ◌<◌, ◌≤◌, ◌^◌, max, Bool, true, false, ◌==◌, ◌&&◌, ◌||◌, nat_lt, if◌then◌else◌, List, [], ◌∷◌, map, Some, None, slice_get, refl, sym, ap, ◌∙◌, arith}
use Rattle.std.specs.Int.{bit_at}
use Rattle.std.specs.Int.Bits.{bit_or}
use Rattle.std.specs.List.{range_with_len}
use Rattle.std.specs.Option.{unwrap_or}
use Rattle.std.proofs.lemmas.Bool.{and_from, and_parts, cases_lt, eqb-true, eq-eqb, lt-ltb, or_left, or_right, true≢false}
use Rattle.std.proofs.lemmas.Nat.Bits.{bit_at_or, bit_at-lt, bit_at-pow_other, bit_at-pow_same, bit_at-zero}
use Rattle.fisca_run_file.specs.Marks.{IsMoved, has_mark}
use Rattle.fisca_run_file.specs.Steps.Marks.{mark_of, marks_of, wheels_of}
use Rattle.fisca_situations.specs.Slots.{Slot}

abbrev has : ℕ → ℕ → Bool
has bits wheel = bit_at bits wheel == 1

one_of : (a b : ℕ) → a ≤ 1 → b ≤ 1 → (max a b == 1) ≡ ((a == 1) || (b == 1))
one_of zero zero p q = refl
one_of zero (suc zero) p q = refl
one_of zero (suc (suc b)) p q = absurd (omega arith)
one_of (suc zero) zero p q = refl
one_of (suc zero) (suc zero) p q = refl
one_of (suc zero) (suc (suc b)) p q = absurd (omega arith)
one_of (suc (suc a)) b p q = absurd (omega arith)

has_both : (left right wheel : ℕ) → has (bit_or left right) wheel ≡ (has left wheel || has right wheel)
has_both left right wheel =
    ap (λ n. n == 1) (bit_at_or left right wheel)
    ∙ one_of (bit_at left wheel) (bit_at right wheel) (let a = bit_at-lt left wheel in omega arith) (let b = bit_at-lt right wheel in omega arith)

has_none : (wheel : ℕ) → has 0 wheel ≡ false
has_none wheel = ap (λ n. n == 1) (bit_at-zero wheel)

either : (a b : Bool) → (a || b) ≡ true → (a ≡ true) ⊎ (b ≡ true)
either true b h = inl refl
either false b h = inr h

-- One slot

own : (s : Slot) (x wheel : ℕ) → wheel < 16 → s.variable ≡ x → s.wheel ≡ wheel → has (mark_of s x) wheel ≡ true
own s x wheel few is at =
    let both : ((s.variable == x) && nat_lt s.wheel 16) ≡ true =
    and_from (s.variable == x) (nat_lt s.wheel 16) (eq-eqb s.variable x is) (ap (λ w. nat_lt w 16) at ∙ lt-ltb wheel 16 few) in
    ap (λ b. has (if b then 2 ^ s.wheel else 0) wheel) both ∙ (ap (λ w. has (2 ^ w) wheel) at ∙ ap (λ n. n == 1) (bit_at-pow_same wheel))

own_back : (s : Slot) (x wheel : ℕ) → has (mark_of s x) wheel ≡ true → (s.variable ≡ x) × (s.wheel ≡ wheel)
own_back s x wheel h = by ((s.variable == x) && nat_lt s.wheel 16) refl h
  where
    same : (b : Bool) → (s.wheel == wheel) ≡ b → has (2 ^ s.wheel) wheel ≡ true → s.wheel ≡ wheel
    same true is e = eqb-true s.wheel wheel is
    same false is e =
        let other : wheel ≢ s.wheel = λ at. true≢false (sym (eq-eqb s.wheel wheel (sym at)) ∙ is) in
        absurd (true≢false (sym e ∙ ap (λ n. n == 1) (bit_at-pow_other s.wheel wheel other)))

    by : (b : Bool) → ((s.variable == x) && nat_lt s.wheel 16) ≡ b → has (if b then 2 ^ s.wheel else 0) wheel ≡ true → (s.variable ≡ x) × (s.wheel ≡ wheel)
    by true is e = (eqb-true s.variable x (and_parts (s.variable == x) (nat_lt s.wheel 16) is).0, same (s.wheel == wheel) refl e)
    by false is e = absurd (true≢false (sym e ∙ has_none wheel))

-- All slots

marked : (ss : List Slot) (i : ℕ) (s : Slot) → slice_get ss i ≡ Some s → s.wheel < 16 → has (marks_of ss s.variable) s.wheel ≡ true
marked [] zero s at few = cc
marked [] (suc i) s at few = cc
marked (r ∷ ss) zero s at few =
    let is : r ≡ s = cc in
    has_both (mark_of r s.variable) (marks_of ss s.variable) s.wheel
    ∙ or_left (has (mark_of r s.variable) s.wheel) _ (own r s.variable s.wheel few (ap (λ (t : Slot). t.variable) is) (ap (λ (t : Slot). t.wheel) is))
marked (r ∷ ss) (suc i) s at few =
    has_both (mark_of r s.variable) (marks_of ss s.variable) s.wheel
    ∙ or_right (has (mark_of r s.variable) s.wheel) _ (marked ss i s at few)

later : (r : Slot) (ss : List Slot) (x wheel : ℕ) → IsMoved ss x wheel → IsMoved (r ∷ ss) x wheel
later r ss x wheel is = (suc is.0, is.1, is.2, is.3, is.4)

marked_back : (ss : List Slot) (x wheel : ℕ) → has (marks_of ss x) wheel ≡ true → IsMoved ss x wheel
marked_back [] x wheel h = absurd (true≢false (sym h ∙ has_none wheel))
marked_back (r ∷ ss) x wheel h =
    elim (either (has (mark_of r x) wheel) (has (marks_of ss x) wheel) (sym (has_both (mark_of r x) (marks_of ss x) wheel) ∙ h)) [
      | inl one ↦ (let is = own_back r x wheel one in (0, r, refl, is.0, is.1))
      | inr more ↦ later r ss x wheel (marked_back ss x wheel more)
    ]

-- All variables

module _ (f : ℕ → ℕ) where
  inside : (a n x y : ℕ) → x < n → a + x ≡ y → slice_get (map f (range_with_len a n)) x ≡ Some (f y)
  inside a zero x y less is = absurd (omega (arith, less))
  inside a (suc n) zero y less is = let same : a ≡ y = omega (arith, is) in ap (λ k. Some (f k)) same
  inside a (suc n) (suc x) y less is = inside (a + 1) n x y (omega (arith, less)) (omega (arith, is))

  outside : (a n x : ℕ) → n ≤ x → slice_get (map f (range_with_len a n)) x ≡ None
  outside a zero zero past = refl
  outside a zero (suc x) past = refl
  outside a (suc n) zero past = absurd (omega (arith, past))
  outside a (suc n) (suc x) past = outside (a + 1) n x (omega (arith, past))

there : (variables : ℕ) (ss : List Slot) (x : ℕ) → x < variables → unwrap_or (slice_get (wheels_of variables ss) x) 0 ≡ marks_of ss x
there variables ss x less = ap (λ o. unwrap_or o 0) (inside (marks_of ss) 0 variables x x less (omega arith))

past : (variables : ℕ) (ss : List Slot) (x : ℕ) → variables ≤ x → unwrap_or (slice_get (wheels_of variables ss) x) 0 ≡ 0
past variables ss x more = ap (λ o. unwrap_or o 0) (outside (marks_of ss) 0 variables x more)

pub has_all : (variables : ℕ) (ss : List Slot) (i : ℕ) (s : Slot) → slice_get ss i ≡ Some s → s.variable < variables → s.wheel < 16
    → has_mark (wheels_of variables ss) s.variable s.wheel ≡ true
has_all variables ss i s at less few = ap (λ bits. has bits s.wheel) (there variables ss s.variable less) ∙ marked ss i s at few

pub has_only : (variables : ℕ) (ss : List Slot) (x wheel : ℕ) → has_mark (wheels_of variables ss) x wheel ≡ true → IsMoved ss x wheel
has_only variables ss x wheel h = elim (cases_lt x variables) [
  | inl less ↦ marked_back ss x wheel (ap (λ bits. has bits wheel) (sym (there variables ss x less)) ∙ h)
  | inr more ↦ absurd (true≢false (sym h ∙ (ap (λ bits. has bits wheel) (past variables ss x more) ∙ has_none wheel)))
]
