-- Times at which wheels turned, and sets of wheels, bit by bit.
use Rattle.std.proofs.Common.{◌≡◌, ℕ, zero, suc, ◌/◌, ◌%◌, ◌<◌, ◌≤◌, Bool, true, false, ◌==◌, ◌&&◌, ◌||◌, nat_le, List, [], ◌∷◌, length, All, slice_set, refl, sym, ap, ◌∙◌, arith}
use Rattle.std.proofs.lemmas.Nat.Bits.{bit_at-suc, bit_at_lowest}
use Rattle.std.proofs.lemmas.Bool.Decides.{nat_tests}
use Rattle.fisca_memo_theory.specs.Reads.{reads_wheel}
use Rattle.fisca_evaluator.specs.Stamps.{fresh}

-- without wheels all is fresh
pub fresh_none : (turned : List ℕ) (since : ℕ) → fresh turned 0 since ≡ true
fresh_none [] since = refl
fresh_none (first ∷ rest) since = fresh_none rest since

and_yes : (a b c : Bool) → b ≡ true → c ≡ true → ((a || b) && c) ≡ true
and_yes a b c p q = rw (p, q) (or_true a)
  where
    or_true : (a : Bool) → ((a || true) && true) ≡ true
    or_true true = refl
    or_true false = refl

and_no : (a : Bool) → (a && false) ≡ false
and_no true = refl
and_no false = refl

-- what is kept now is fresh
pub fresh_now : (turned : List ℕ) (wheels clock : ℕ) → All (λ time. time ≤ clock) turned → fresh turned wheels clock ≡ true
fresh_now [] wheels clock all = refl
fresh_now (first ∷ rest) wheels clock all =
    let le : nat_le first clock ≡ true = let at : first ≤ clock = all 0 0 (omega arith) in grind (arith, nat_tests) in
    and_yes (wheels % 2 == 0) (nat_le first clock) _ le (fresh_now rest (wheels / 2) clock (λ k d less. all (suc k) d (omega arith)))

lower : (wheels wheel : ℕ) → reads_wheel wheels (suc wheel) ≡ reads_wheel (wheels / 2) wheel
lower wheels wheel = ap (λ n. n == 1) (bit_at-suc wheels wheel)

lowest : (wheels : ℕ) → reads_wheel wheels 0 ≡ (wheels % 2 == 1)
lowest wheels = ap (λ n. n == 1) (bit_at_lowest wheels)

odd : (wheels : ℕ) → (wheels % 2 == 1) ≡ true → (wheels % 2 == 0) ≡ false
odd wheels h = grind (arith, nat_tests)

even : (wheels : ℕ) → (wheels % 2 == 1) ≡ false → (wheels % 2 == 0) ≡ true
even wheels h = grind (arith, nat_tests)

-- what reads a wheel that turns now goes stale
pub fresh_moved : (turned : List ℕ) (wheels wheel since now : ℕ) → since < now → wheel < length turned → reads_wheel wheels wheel ≡ true → fresh (slice_set turned wheel now) wheels since ≡ false
fresh_moved [] wheels wheel since now later within reads = absurd (omega arith)
fresh_moved (first ∷ rest) wheels zero since now later within reads =
    let no : nat_le now since ≡ false = grind (arith, nat_tests) in
    let bit : (wheels % 2 == 0) ≡ false = odd wheels (sym (lowest wheels) ∙ reads) in
    rw (bit, no) refl
fresh_moved (first ∷ rest) wheels (suc wheel) since now later within reads =
    rw (fresh_moved rest (wheels / 2) wheel since now later (omega arith) (sym (lower wheels wheel) ∙ reads)) (and_no _)

-- and the rest stays as it is
pub fresh_still : (turned : List ℕ) (wheels wheel since now : ℕ) → reads_wheel wheels wheel ≡ false → fresh (slice_set turned wheel now) wheels since ≡ fresh turned wheels since
fresh_still [] wheels wheel since now reads = refl
fresh_still (first ∷ rest) wheels zero since now reads =
    let bit : (wheels % 2 == 0) ≡ true = even wheels (sym (lowest wheels) ∙ reads) in
    rw bit refl
fresh_still (first ∷ rest) wheels (suc wheel) since now reads =
    ap (λ b. ((wheels % 2 == 0) || nat_le first since) && b) (fresh_still rest (wheels / 2) wheel since now (sym (lower wheels wheel) ∙ reads))
