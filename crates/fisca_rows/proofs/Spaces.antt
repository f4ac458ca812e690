-- Texts without their last spaces.
use Rattle.std.proofs.Common.{◌≡◌, ◌≢◌, ℕ, eqb, List, [], ◌∷◌, ◌++◌, reverse, ⊎_elim, refl, ap, ◌∙◌, sym}
use Rattle.std.proofs.lemmas.Bool.{cases_Bool, eqb-true}
use Rattle.std.proofs.lemmas.List.{reverse-append, reverse-reverse}
use Rattle.fisca_grid.specs.Steps.Condition.{past_spaces}
use Rattle.fisca_rows.specs.Steps.Conditions.{before_spaces}

-- a space more at the end is one of the last
pub space_passed : (front : List ℕ) → before_spaces (front ++ 32 ∷ []) ≡ before_spaces front
space_passed front = ap (λ bs. reverse (past_spaces bs)) (reverse-append front (32 ∷ []))

leads_none : (bs : List ℕ) → ((rest : List ℕ) → bs ≢ 32 ∷ rest) → past_spaces bs ≡ bs
leads_none [] h = refl
leads_none (b ∷ bs) h = ⊎_elim (λ e. absurd (h bs (ap (λ c. c ∷ bs) (eqb-true b 32 e)))) (λ e. rw e refl) (cases_Bool (eqb b 32))

-- a text that ends in no space stays
pub none_passed : (bs : List ℕ) → ((front : List ℕ) → bs ≢ front ++ 32 ∷ []) → before_spaces bs ≡ bs
none_passed bs h = ap reverse (leads_none (reverse bs) leads) ∙ reverse-reverse bs
  where
    leads : (rest : List ℕ) → reverse bs ≢ 32 ∷ rest
    leads rest e = h (reverse rest) (sym (reverse-reverse bs) ∙ (ap reverse e ∙ reverse-append (32 ∷ []) rest))
