-- A formula with its locals says what it means.
use Rattle.std.proofs.Common.{◌≡◌, ℕ, zero, suc, List, [], ◌∷◌, ◌++◌, length, map, Option, Some, None, eq-eqb, ne_eqb, refl, sym, ap, ◌∙◌, ⊎_elim, slice_get}
use Rattle.std.proofs.lemmas.Bool.{cases_eq}
use Rattle.fisca_key_semantics.specs.Dialogues.{Dialogue, stuck, ◌>>=◌}
use Rattle.fisca_typing.specs.Meaning.{Locals, mean, mean_from, local_at}
use Rattle.fisca_model.specs.Groups.{Groups, Point}
use Rattle.fisca_ir.specs.Views.{node}
use Rattle.fisca_ir.specs.declared.node.Node.{Node}
use Rattle.fisca_typing.specs.Nodes as spec
use Rattle.fisca_model.specs.Tables.{Tables}
use Rattle.fisca_machine.specs.Running.{After, says, says_below, says_or}
use Rattle.fisca_machine.proofs.Binds.{says_on}

other : {X : Type 0} (xs : List X) (y : X) (i : ℕ) → (i ≡ length xs → ⊥) → slice_get (xs ++ y ∷ []) i ≡ slice_get xs i
other [] y zero h = absurd (h refl)
other [] y (suc i) h = refl
other (x ∷ xs) y zero h = refl
other (x ∷ xs) y (suc i) h = other xs y i (λ e. h (ap suc e))

last : {X : Type 0} (xs : List X) (y : X) (ys : List X) → slice_get (xs ++ y ∷ ys) (length xs) ≡ Some y
last [] y ys = refl
last (x ∷ xs) y ys = last xs y ys

one_more : {X : Type 0} (xs : List X) (y : X) → length (xs ++ y ∷ []) ≡ suc (length xs)
one_more [] y = refl
one_more (x ∷ xs) y = ap suc (one_more xs y)

end : {X : Type 0} (xs : List X) → xs ++ [] ≡ xs
end [] = refl
end (x ∷ xs) = ap (λ ys. x ∷ ys) (end xs)

step : {X : Type 0} (xs : List X) (y : X) (ys : List X) → xs ++ y ∷ ys ≡ (xs ++ y ∷ []) ++ ys
step [] y ys = refl
step (x ∷ xs) y ys = ap (λ zs. x ∷ zs) (step xs y ys)

abbrev pub mean_or : Tables → Groups → Locals → Option Node → Point → Dialogue
mean_or c g ls None = λ q. stuck
mean_or c g ls (Some e) = λ q. mean c g ls (node e) q

module _ (c : Tables) (g : Groups) (ns : List Node) where
  -- what the first so many locals mean
  abbrev pub means : ℕ → Locals
  means zero = []
  means (suc n) = means n ++ mean_or c g (means n) (slice_get ns n) ∷ []

  so_many : (n : ℕ) → length (means n) ≡ n
  so_many zero = refl
  so_many (suc n) = one_more (means n) _ ∙ ap suc (so_many n)

  pub below_on : (n i : ℕ) (p : Point) (k : After) → says_below c g ns n i p k ≡ local_at (slice_get (means n) i) p >>= k
  unfolding says_below
  below_on zero i p k = refl
  below_on (suc n) i p k = ⊎_elim
      (λ (e : i ≡ n). rw (eq-eqb i n e) (or_on (λ j q l. below_on n j q l) (slice_get ns n) ∙ ap (λ o. local_at o p >>= k) (sym (ap (slice_get (means n ++ mean_or c g (means n) (slice_get ns n) ∷ [])) (e ∙ sym (so_many n)) ∙ last (means n) _ []))))
      (λ (d : i ≡ n → ⊥). rw (ne_eqb i n d) (below_on n i p k ∙ ap (λ o. local_at o p >>= k) (sym (other (means n) _ i (λ e. d (e ∙ so_many n))))))
      (cases_eq i n)
    where
      or_on : ((j : ℕ) (q : Point) (l : After) → says_below c g ns n j q l ≡ local_at (slice_get (means n) j) q >>= l)
          → (o : Option Node) → says_or c g (says_below c g ns n) o p k ≡ mean_or c g (means n) o p >>= k
      or_on ih None = refl
      or_on ih (Some e) = says_on c g (says_below c g ns n) (means n) ih (node e) p k

  from_on : (pre rest : List Node) (r : spec.Node) (p : Point) → ns ≡ pre ++ rest → mean_from c g (means (length pre)) (map node rest) r p ≡ mean c g (means (length ns)) r p
  from_on pre [] r p e = ap (λ j. mean c g (means j) r p) (sym (ap length (e ∙ end pre)))
  from_on pre (x ∷ xs) r p e =
      ap (λ ls. mean_from c g ls (map node xs) r p) (sym (ap means (one_more pre x) ∙ ap (λ o. means (length pre) ++ mean_or c g (means (length pre)) o ∷ []) (ap (λ ys. slice_get ys (length pre)) e ∙ last pre x xs)))
      ∙ from_on (pre ++ x ∷ []) xs r p (e ∙ step pre x xs)

  pub formula_on : (e : Node) (p : Point) (k : After) → says c g (says_below c g ns (length ns)) (node e) p k ≡ mean_from c g [] (map node ns) (node e) p >>= k
  formula_on e p k =
      says_on c g (says_below c g ns (length ns)) (means (length ns)) (λ i q l. below_on (length ns) i q l) (node e) p k
      ∙ ap (λ d. d >>= k) (sym (from_on [] ns (node e) p refl))
