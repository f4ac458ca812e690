-- `split_once` and `rsplit_once` at a text, as the definitions of the parts around its first and its last place.
use Rattle.std.proofs.Common.{◌≡◌, ℕ, zero, suc, ◌<◌, ◌≤◌, cond, eqb, List, [], ◌∷◌, ◌++◌, length, take, drop, Option, Some, None, option_map, MatchOption, refl, sym, ap, ap₂, ◌∙◌, arith}
use Rattle.std.proofs.lemmas.List.{length-append, length-drop}
use Rattle.std.proofs.Math.Seq.{drop-append_seam}
use Rattle.std.specs.List.{starts_with}
use Rattle.std.specs.Option.{option_or}
use Rattle.std.specs.Str.Pattern.{LacksTextAt, FindsText, SplitsAroundMatch, RFindsText}
use Rattle.fisca_grid.proofs.Prefixes.{lacks_front, has_front}
use Rattle.fisca_grid.specs.Steps.Words.{around_first, around_last, with_front}
use denote.Ref.{Bor}

nowhere : (n s : List ℕ) → ((i : ℕ) → i ≤ length s → LacksTextAt n s i) → around_first n s ≡ None
nowhere n [] h = refl
nowhere n (b ∷ bs) h =
    rw (lacks_front n (b ∷ bs) (h 0 (omega arith)))
    (ap (option_map (with_front b)) (nowhere n bs (λ i le rest. h (suc i) (omega arith) rest)))

first_at : (n s : List ℕ) (i : ℕ) (rest : List ℕ) → 0 < length n → ((k : ℕ) → k < i → LacksTextAt n s k) → drop i s ≡ n ++ rest → around_first n s ≡ Some (take i s, rest)
first_at n [] i rest some before e = absurd (omega (arith, ap length e, length-append n rest, length-drop {A = ℕ} i []))
first_at n (b ∷ bs) zero rest some before e =
    rw (has_front n (b ∷ bs) rest e) (ap (λ l. Some ([], l)) (ap (drop (length n)) e ∙ drop-append_seam n rest))
first_at n (b ∷ bs) (suc i) rest some before e =
    rw (lacks_front n (b ∷ bs) (before 0 (omega arith)))
    (ap (option_map (with_front b)) (first_at n bs i rest some (λ k less rest. before (suc k) (omega arith) rest) e))

pub around_first_is : (n s : List ℕ) (r : Option (Bor (List ℕ) × Bor (List ℕ))) → 0 < length n
    → MatchOption r (FindsText n s None) (λ x. SplitsAroundMatch (FindsText n) s x.0.now x.1.now)
    → MatchOption r (around_first n s ≡ None) (λ x. around_first n s ≡ Some (x.0.now, x.1.now))
around_first_is n s None some h = nowhere n s h
around_first_is n s (Some x) some h =
    first_at n s h.0 (drop h.1 s) some h.2.0 h.2.1.split
    ∙ ap₂ (λ a b. Some (a, b)) (sym h.3) (sym h.4)

last_nowhere : (n s : List ℕ) → ((i : ℕ) → i ≤ length s → LacksTextAt n s i) → around_last n s ≡ None
last_nowhere n [] h = refl
last_nowhere n (b ∷ bs) h =
    rw (lacks_front n (b ∷ bs) (h 0 (omega arith)))
    (ap (λ o. option_or (option_map (with_front b) o) None) (last_nowhere n bs (λ i le rest. h (suc i) (omega arith) rest)))

last_at : (n s : List ℕ) (i : ℕ) (rest : List ℕ) → 0 < length n → ((k : ℕ) → i < k → k ≤ length s → LacksTextAt n s k) → drop i s ≡ n ++ rest → around_last n s ≡ Some (take i s, rest)
last_at n [] i rest some after e = absurd (omega (arith, ap length e, length-append n rest, length-drop {A = ℕ} i []))
last_at n (b ∷ bs) zero rest some after e =
    rw (has_front n (b ∷ bs) rest e)
    (ap (λ o. option_or (option_map (with_front b) o) (Some ([], drop (length n) (b ∷ bs)))) (last_nowhere n bs (λ k le rest. after (suc k) (omega arith) (omega arith) rest))
    ∙ ap (λ l. Some ([], l)) (ap (drop (length n)) e ∙ drop-append_seam n rest))
last_at n (b ∷ bs) (suc i) rest some after e =
    ap (λ o. option_or (option_map (with_front b) o) (cond (starts_with eqb (b ∷ bs) n) (Some ([], drop (length n) (b ∷ bs))) None))
    (last_at n bs i rest some (λ k less le rest. after (suc k) (omega arith) (omega arith) rest) e)

pub around_last_is : (n s : List ℕ) (r : Option (Bor (List ℕ) × Bor (List ℕ))) → 0 < length n
    → MatchOption r (RFindsText n s None) (λ x. SplitsAroundMatch (RFindsText n) s x.0.now x.1.now)
    → MatchOption r (around_last n s ≡ None) (λ x. around_last n s ≡ Some (x.0.now, x.1.now))
around_last_is n s None some h = last_nowhere n s h
around_last_is n s (Some x) some h =
    last_at n s h.0 (drop h.1 s) some h.2.0 h.2.1.split
    ∙ ap₂ (λ a b. Some (a, b)) (sym h.3) (sym h.4)
