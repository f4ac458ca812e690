-- Groups without persons, and persons put into groups.
use Rattle.std.proofs.Common.{◌≡◌, ◌≤◌, ◌<◌, ◌⊎◌, inl, inr, ⊎_elim, ◌∙◌, ℕ, zero, suc, ◌+◌, List, [], ◌∷◌, ◌++◌, append_assoc, arith, drop, drop-cons, get_or, length, Bool, true, false, Option, refl, ap, add-one, if◌then◌else◌}
use Rattle.fisca_groups.specs.declared.home.Home.{Home}
use Rattle.fisca_groups.specs.Lookup.{holders_from, is_in}

-- one more without persons
pub none_more : (rows : List (List ℕ)) → ((g : ℕ) → get_or rows g [] ≡ []) → (g : ℕ) → get_or (rows ++ [] ∷ []) g [] ≡ []
none_more [] h zero = refl
none_more [] h (suc g) = refl
none_more (r ∷ rows) h zero = h zero
none_more (r ∷ rows) h (suc g) = none_more rows (λ k. h (suc k)) g

-- the person at hand comes first of those that are left
pub holder_step : (g p : ℕ) (home : Option Home) (homes : List (Option Home)) (old new all : List ℕ)
    → new ≡ old ++ (if is_in g home then p ∷ [] else []) → old ++ holders_from g p (home ∷ homes) ≡ all → new ++ holders_from g (p + 1) homes ≡ all
holder_step g p home homes old new all h e = rw (h, add-one) (by (is_in g home) e)
  where
    by : (b : Bool) → old ++ (if b then p ∷ holders_from g (suc p) homes else holders_from g (suc p) homes) ≡ all
        → (old ++ (if b then p ∷ [] else [])) ++ holders_from g (suc p) homes ≡ all
    by true k = append_assoc old (p ∷ []) (holders_from g (suc p) homes) ∙ k
    by false k = append_assoc old [] (holders_from g (suc p) homes) ∙ k

-- a person that the group does not hold is none of its persons
pub none_behind : (g i : ℕ) (homes : List (Option Home)) (d : Option Home) (all : List ℕ) → i < length homes → is_in g (get_or homes i d) ≡ false
    → holders_from g i (drop i homes) ≡ all → holders_from g (i + 1) (drop (i + 1) homes) ≡ all
none_behind g i homes d all h n e = rw add-one (rw (drop-cons homes i d h, n) at e)

cases_lt : (a b : ℕ) → (a < b) ⊎ (b ≤ a)
cases_lt a zero = inr (omega arith)
cases_lt zero (suc b) = inl (omega arith)
cases_lt (suc a) (suc b) = ⊎_elim (λ h. inl (omega (arith, h))) (λ h. inr (omega (arith, h))) (cases_lt a b)

past : (rows : List (List ℕ)) (g : ℕ) → length rows ≤ g → get_or rows g [] ≡ []
past [] g h = refl
past (r ∷ rows) zero h = absurd (omega (arith, h))
past (r ∷ rows) (suc g) h = past rows g (omega (arith, h))
