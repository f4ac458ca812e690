-- Steps through a text in quotes.
use Rattle.std.proofs.Common.{◌≡◌, ◌≢◌, ℕ, ◌+◌, ◌<◌, true, false, List, [], ◌∷◌, ◌++◌, length, get_or, take, drop, Some, refl, sym, ap, ◌∙◌, arith}
use Rattle.std.proofs.lemmas.List.{at_drop_more, take_more}
use Rattle.std.proofs.lemmas.Bool.Decides.{nat_tests}
use Rattle.fisca_yaml_scalars.specs.Scalars.{prepend, single, is_doubled, double, none, begun}
use Rattle.fisca_yaml_scalars.specs.Steps.Rows.{begins}
use Rattle.fisca_yaml_scalars.proofs.Steps.{prepend_twice}

other : (b : ℕ) (bs : List ℕ) → b ≢ 39 → single false (b ∷ bs) ≡ prepend (b ∷ []) (single false bs)
other b bs h = grind (arith, nat_tests)

here : (b : ℕ) (bs : List ℕ) → b ≡ 39 → single false (b ∷ bs) ≡ single true bs
here b bs h = rw h refl

pub quote_more : (bs : List ℕ) (i : ℕ) → i < length bs → get_or bs i 0 ≢ 39 → prepend (take i bs) (single false (drop i bs)) ≡ prepend (take (i + 1) bs) (single false (drop (i + 1) bs))
quote_more bs i h e =
    at_drop_more (λ t. prepend (take i bs) (single false t)) bs i 0 h ∙ ap (prepend (take i bs)) (other (get_or bs i 0) (drop (i + 1) bs) e)
    ∙ prepend_twice (take i bs) (get_or bs i 0 ∷ []) (single false (drop (i + 1) bs)) ∙ ap (λ t. prepend t (single false (drop (i + 1) bs))) (sym (take_more bs i 0 h))

no_quote : (b : ℕ) (bs : List ℕ) → b ≢ 39 → is_doubled (b ∷ bs) ≡ is_doubled bs
no_quote b bs h = grind (arith, nat_tests)

a_quote : (b : ℕ) (bs : List ℕ) → b ≡ 39 → is_doubled (b ∷ bs) ≡ begins 39 bs
a_quote b bs h = rw h refl

pub doubled_more : (bs : List ℕ) (i : ℕ) → i < length bs → get_or bs i 0 ≢ 39 → is_doubled (drop i bs) ≡ is_doubled (drop (i + 1) bs)
doubled_more bs i h e = at_drop_more is_doubled bs i 0 h ∙ no_quote (get_or bs i 0) (drop (i + 1) bs) e

pub doubled_found : (bs : List ℕ) (i : ℕ) → i < length bs → get_or bs i 0 ≡ 39 → is_doubled (drop i bs) ≡ begins 39 (drop (i + 1) bs)
doubled_found bs i h e = at_drop_more is_doubled bs i 0 h ∙ a_quote (get_or bs i 0) (drop (i + 1) bs) e

ordinary : (b : ℕ) (bs : List ℕ) → b ≢ 34 → b ≢ 92 → double none (b ∷ bs) ≡ prepend (b ∷ []) (double none bs)
ordinary b bs h k = grind (arith, nat_tests)

closing : (b : ℕ) (bs : List ℕ) → b ≡ 34 → double none (b ∷ bs) ≡ Some ([], bs)
closing b bs h = rw h refl

escaping : (b : ℕ) (bs : List ℕ) → b ≡ 92 → double none (b ∷ bs) ≡ double begun bs
escaping b bs h = rw h refl

pub double_more : (bs : List ℕ) (i : ℕ) → i < length bs → get_or bs i 0 ≢ 34 → get_or bs i 0 ≢ 92 → prepend (take i bs) (double none (drop i bs)) ≡ prepend (take (i + 1) bs) (double none (drop (i + 1) bs))
double_more bs i h e f =
    at_drop_more (λ t. prepend (take i bs) (double none t)) bs i 0 h ∙ ap (prepend (take i bs)) (ordinary (get_or bs i 0) (drop (i + 1) bs) e f)
    ∙ prepend_twice (take i bs) (get_or bs i 0 ∷ []) (double none (drop (i + 1) bs)) ∙ ap (λ t. prepend t (double none (drop (i + 1) bs))) (sym (take_more bs i 0 h))

pub double_escapes : (bs : List ℕ) (i : ℕ) → i < length bs → get_or bs i 0 ≡ 92 → double none (drop i bs) ≡ double begun (drop (i + 1) bs)
double_escapes bs i h e = at_drop_more (double none) bs i 0 h ∙ escaping (get_or bs i 0) (drop (i + 1) bs) e

-- a piece up to a backslash, and its escape
pub escape_step : (text copy left front rest past copied pushed code : List ℕ) (at last : ℕ) → double none text ≡ prepend copy (double none left)
    → double none left ≡ prepend (take at left) (double none (drop at left)) → at < length left → get_or left at 0 ≡ 92 → front ≡ take at left → rest ≡ drop (at + 1) left
    → double begun rest ≡ prepend code (double none (drop (last + 1) rest)) → past ≡ drop (last + 1) rest → copied ≡ copy ++ front → pushed ≡ copied ++ code
    → double none text ≡ prepend pushed (double none past)
escape_step text copy left front rest past copied pushed code at last e0 e1 h k ef er e2 ep ec eq =
    e0 ∙ ap (prepend copy) (e1 ∙ ap (prepend (take at left)) (double_escapes left at h k ∙ ap (double begun) (sym er) ∙ e2 ∙ ap (λ p. prepend code (double none p)) (sym ep)))
    ∙ prepend_twice copy (take at left) (prepend code (double none past)) ∙ prepend_twice (copy ++ take at left) code (double none past)
    ∙ ap (λ t. prepend t (double none past)) (ap (λ t. t ++ code) (ap (λ f. copy ++ f) (sym ef) ∙ sym ec) ∙ sym eq)
