-- Inputs put in one after another.
use Rattle.std.proofs.Common.{◌≡◌, ℕ, zero, suc, ◌<◌, ◌≤◌, Bool, true, false, List, [], ◌∷◌, ◌++◌, length, take, drop, get_or, if◌then◌else◌, refl, ap, sym, ◌∙◌, arith}
use Rattle.std.proofs.Math.ListN.{set}
use Rattle.fisca_inputs.specs.Entries.{same_key}
use Rattle.fisca_inputs.specs.Inputs.{key_given}
use Rattle.fisca_inputs.specs.declared.given.Given.{Given}
use Rattle.fisca_situations.specs.Steps.Axes.{put_in}

abbrev is_like : Given → Given → Bool
is_like h g = same_key (key_given h) (key_given g)

chosen : (b c : Bool) (x y : List Given) → b ≡ c → (if b then x else y) ≡ (if c then x else y)
chosen b c x y e = ap (λ d. if d then x else y) e

-- the one at this place is the same
pub put_here : (gs : List Given) (g h : Given) (i : ℕ) → i < length gs → h ≡ get_or gs i h → is_like h g ≡ true → take i gs ++ put_in (drop i gs) g ≡ set gs i g
put_here [] g h i less is same = absurd (omega arith)
put_here (x ∷ xs) g h zero less is same = chosen (is_like x g) true (g ∷ xs) (x ∷ put_in xs g) (ap (λ y. is_like y g) (sym is) ∙ same)
put_here (x ∷ xs) g h (suc i) less is same = ap (λ ys. x ∷ ys) (put_here xs g h i (omega arith) is same)

-- it is not
pub put_past : (gs : List Given) (g h : Given) (i : ℕ) → i < length gs → h ≡ get_or gs i h → is_like h g ≡ false
    → take i gs ++ put_in (drop i gs) g ≡ take (suc i) gs ++ put_in (drop (suc i) gs) g
put_past [] g h i less is same = absurd (omega arith)
put_past (x ∷ xs) g h zero less is same = chosen (is_like x g) false (g ∷ xs) (x ∷ put_in xs g) (ap (λ y. is_like y g) (sym is) ∙ same)
put_past (x ∷ xs) g h (suc i) less is same = ap (λ ys. x ∷ ys) (put_past xs g h i (omega arith) is same)

-- none is
pub put_behind : (gs : List Given) (g : Given) (i : ℕ) → length gs ≤ i → take i gs ++ put_in (drop i gs) g ≡ gs ++ g ∷ []
put_behind [] g zero past = refl
put_behind [] g (suc i) past = refl
put_behind (h ∷ hs) g zero past = absurd (omega arith)
put_behind (h ∷ hs) g (suc i) past = ap (λ xs. h ∷ xs) (put_behind hs g i (omega arith))
