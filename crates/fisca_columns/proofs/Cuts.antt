-- `split_once` at a character, as the definition of what stands before its first place and behind it.
use Rattle.std.proofs.Common.{◌≡◌, ℕ, suc, ◌+◌, ◌<◌, Bool, true, false, not, cond, eqb, List, [], ◌∷◌, length, take, drop, Option, Some, None, MatchOption, refl, ap, ap₂, ◌∙◌, sym, arith}
use Rattle.std.specs.List.{position_or_len, before_first, after_first}
use Rattle.fisca_columns.specs.Steps.Written.{cut}
use denote.Ref.{Bor}

abbrev Cut : Type 0
Cut = List ℕ × Option (List ℕ)

-- what is in front of one that is cut behind it
abbrev step : Bool → ℕ → List ℕ → Cut → Cut
step t b bs c = cond t ([], Some bs) (b ∷ c.0, c.1)

abbrev cut_by : List ℕ → ℕ → ℕ → Cut
cut_by s i j = (take i s, Some (drop j s))

nowhere_by : (t : Bool) (sign b i : ℕ) (bs : List ℕ) → cond (not t) (1 + i) 0 ≡ suc (length bs) → (i ≡ length bs → cut sign bs ≡ (bs, None))
    → step t b bs (cut sign bs) ≡ (b ∷ bs, None)
nowhere_by true sign b i bs h f = absurd (omega (arith, h))
nowhere_by false sign b i bs h f = ap (λ c. (b ∷ c.0, c.1)) (f (omega (arith, h)))

nowhere : (sign : ℕ) (s : List ℕ) → position_or_len (λ b. eqb b sign) s ≡ length s → cut sign s ≡ (s, None)
nowhere sign [] h = refl
nowhere sign (b ∷ bs) h = nowhere_by (eqb b sign) sign b (position_or_len (λ b. eqb b sign) bs) bs h (nowhere sign bs)

found_by : (t : Bool) (sign b i : ℕ) (bs : List ℕ) → cond (not t) (1 + i) 0 < suc (length bs) → (i < length bs → cut sign bs ≡ (take i bs, Some (drop (i + 1) bs)))
    → step t b bs (cut sign bs) ≡ (take (cond (not t) (1 + i) 0) (b ∷ bs), Some (drop (cond (not t) (1 + i) 0 + 1) (b ∷ bs)))
found_by true sign b i bs h f = refl
found_by false sign b i bs h f =
    let one : suc i ≡ 1 + i = omega arith in
    let two : suc (i + 1) ≡ 1 + i + 1 = omega arith in
    ap (step false b bs) (f (omega (arith, h))) ∙ ap₂ (cut_by (b ∷ bs)) one two

found : (sign : ℕ) (s : List ℕ) → position_or_len (λ b. eqb b sign) s < length s
    → cut sign s ≡ (before_first (λ b. eqb b sign) s, Some (after_first (λ b. eqb b sign) s))
found sign [] h = absurd (omega (arith, h))
found sign (b ∷ bs) h = found_by (eqb b sign) sign b (position_or_len (λ b. eqb b sign) bs) bs h (found sign bs)

pub cut_is : (sign : ℕ) (s : List ℕ) (r : Option (Bor (List ℕ) × Bor (List ℕ)))
    → MatchOption r (position_or_len (λ b. eqb b sign) s ≡ length s) (λ x. (position_or_len (λ b. eqb b sign) s < length s) × (x.0.now ≡ before_first (λ b. eqb b sign) s) × (x.1.now ≡ after_first (λ b. eqb b sign) s))
    → MatchOption r (cut sign s ≡ (s, None)) (λ x. cut sign s ≡ (x.0.now, Some x.1.now))
cut_is sign s None h = nowhere sign s h
cut_is sign s (Some x) h = found sign s h.0 ∙ ap₂ (λ a b. (a, Some b)) (sym h.1) (sym h.2)
