-- Numbers of a page, of which some stand behind others.
use Rattle.std.proofs.Common.{◌≡◌, ◌+◌, ◌∙◌, ℕ, zero, suc, Bool, true, false, List, [], ◌∷◌, ◌++◌, length, if◌then◌else◌, ap, arith, refl, sym}
use Rattle.std.specs.Prelude.{◌==◌}
use Rattle.std.proofs.lemmas.Bool.{eq-eqb, eqb-true, false≢true}
use Rattle.fisca_inputs.specs.Places.{number_at}

not_first : (n : ℕ) → (0 == suc n) ≡ false
not_first n = by (0 == suc n) refl
  where
    by : (b : Bool) → (0 == suc n) ≡ b → (0 == suc n) ≡ false
    by true e = absurd (omega (arith, eqb-true 0 (suc n) e))
    by false e = e

both_behind : (m n : ℕ) → (suc m == suc n) ≡ (m == n)
both_behind m n = by (m == n) refl (suc m == suc n) refl
  where
    by : (a : Bool) → (m == n) ≡ a → (b : Bool) → (suc m == suc n) ≡ b → (suc m == suc n) ≡ (m == n)
    by true e true f = f ∙ sym e
    by true e false f = absurd (false≢true (sym f ∙ eq-eqb (suc m) (suc n) (omega (arith, eqb-true m n e))))
    by false e true f = absurd (false≢true (sym e ∙ eq-eqb m n (omega (arith, eqb-true (suc m) (suc n) f))))
    by false e false f = f ∙ sym e

pub behind_set : (first old new : List ℕ) (place behind number : ℕ) → length first + place ≡ behind → ((m : ℕ) → number_at new m ≡ (if m == place then number else number_at old m))
    → (m : ℕ) → number_at (first ++ new) m ≡ (if m == behind then number else number_at (first ++ old) m)
behind_set [] old new place behind number is set m = set m ∙ ap (λ i. if m == i then number else number_at old m) (omega (arith, is))
behind_set (n ∷ first) old new place zero number is set m = absurd (omega (arith, is))
behind_set (n ∷ first) old new place (suc behind) number is set zero = sym (ap (λ b. if b then number else n) (not_first behind))
behind_set (n ∷ first) old new place (suc behind) number is set (suc m) =
    behind_set first old new place behind number (omega (arith, is)) set m
    ∙ sym (ap (λ b. if b then number else number_at (first ++ old) m) (both_behind m behind))

pub behind_like : (first old new : List ℕ) → ((m : ℕ) → number_at new m ≡ number_at old m) → (m : ℕ) → number_at (first ++ new) m ≡ number_at (first ++ old) m
behind_like [] old new like m = like m
behind_like (n ∷ first) old new like zero = refl
behind_like (n ∷ first) old new like (suc m) = behind_like first old new like m
