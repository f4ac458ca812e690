-- Columns that are explained one after another.
use Rattle.std.proofs.Common.{◌≡◌, ◌∙◌, ◌++◌, ◌∷◌, [], ℕ, List, ap, append_assoc, refl, subst, sym}
use Rattle.fisca_model.specs.Values.{Key}
use Rattle.fisca_model.specs.declared.eval_fault.EvalFault.{EvalFault}
use Rattle.fisca_explain.specs.Columns.{Explaining, ExplainsAll, ExplainsOne, HasValue, column_told, followed_in}

module _ (x : Explaining) where
  pub followed_more : (before ks : List Key) (k : Key) → followed_in x before (ks ++ k ∷ []) ≡ (column_told x (followed_in x before ks) k).followed
  followed_more before [] k = refl
  followed_more before (j ∷ ks) k = followed_more (column_told x before j).followed ks k

  pub one_more : (before ks : List Key) (k : Key) (s t : List ℕ) → ExplainsAll x before ks s → HasValue x k → ((fault : EvalFault) × ExplainsOne x fault (followed_in x before ks) k t)
      → ExplainsAll x before (ks ++ k ∷ []) (s ++ t)
  one_more before [] k s t is value one = (t, [], value, one, rw is (sym (append_nothing t)), refl)
    where
      append_nothing : (xs : List ℕ) → xs ++ [] ≡ xs
      append_nothing [] = refl
      append_nothing (c ∷ cs) = ap (λ ys. c ∷ ys) (append_nothing cs)
  one_more before (j ∷ ks) k s t is value one =
      (is.0, is.1 ++ t, is.2, is.3, ap (λ u. u ++ t) is.4 ∙ append_assoc is.0 is.1 t, one_more (column_told x before j).followed ks k is.1 t is.5 value one)
