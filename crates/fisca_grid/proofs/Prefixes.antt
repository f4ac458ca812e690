-- `strip_prefix`, as the definitions of what follows a beginning.
use Rattle.std.proofs.Common.{◌≡◌, ◌≢◌, ℕ, true, false, eqb, List, [], ◌∷◌, ◌++◌, length, drop, Option, Some, None, option_map, MatchOption, ⊎_elim, refl, ap, ◌∙◌}
use Rattle.std.proofs.lemmas.Bool.{cases_Bool, eqb-true}
use Rattle.std.proofs.lemmas.Bool.Decides.{Decides-eqb}
use Rattle.std.proofs.lemmas.Slice.Eq.{starts_is}
use Rattle.std.specs.List.{starts_with}
use Rattle.std.specs.Str.Pattern.{LacksTextAt, FindsTextPrefix, StripsPrefix}
use Rattle.fisca_grid.specs.Steps.Condition.{after, past_spaces}
use denote.Ref.{Bor}

-- a text that does not stand at the front of s is no beginning of it
pub lacks_front : (n s : List ℕ) → LacksTextAt n s 0 → starts_with eqb s n ≡ false
lacks_front n s h = ⊎_elim (λ e. absurd (h _ ((starts_is Decides-eqb s n _ refl).0 e))) (λ e. e) (cases_Bool (starts_with eqb s n))

pub has_front : (n s rest : List ℕ) → s ≡ n ++ rest → starts_with eqb s n ≡ true
has_front n s rest e = (starts_is Decides-eqb s n _ refl).1 rest e

pub after_is : (n s : List ℕ) (r : Option (Bor (List ℕ))) → MatchOption r (FindsTextPrefix n s None) (λ x. StripsPrefix (FindsTextPrefix n) s x.now)
    → option_map (λ x. x.now) r ≡ after n s
after_is n s None h = rw (lacks_front n s h) refl
after_is n s (Some x) h =
    let at : h.0 ≡ length n = h.1.0 in
    rw (has_front n s (drop h.0 s) h.1.1) (ap Some (h.2 ∙ ap (λ k. drop k s) at))

pub spaces_passed : (bs : List ℕ) → ((rest : List ℕ) → bs ≢ 32 ∷ rest) → past_spaces bs ≡ bs
spaces_passed [] h = refl
spaces_passed (b ∷ bs) h = ⊎_elim (λ e. absurd (h bs (ap (λ c. c ∷ bs) (eqb-true b 32 e)))) (λ e. rw e refl) (cases_Bool (eqb b 32))
