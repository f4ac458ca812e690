-- What modules declare, statement by statement and module by module.
use Rattle.std.proofs.Common.{◌≡◌, ◌∙◌, sym, ap, refl, ℕ, suc, List, [], ◌∷◌, ◌++◌, append_assoc}
use Rattle.fisca_rules.specs.FirstPass.{Placed, placed_from, placed_in}
use Rattle.fisca_ast.specs.Modules.{Statement}
use Rattle.fisca_rules.specs.Build.{constant_of}
use Rattle.fisca_rules.specs.Steps.Build.{constants_in, enum_of, enums_in}
use Rattle.fisca_rules.specs.Scans.{all_constants, all_enums, constants_of, enums_of}

constants-more : (ps qs : List Placed) → constants_in (ps ++ qs) ≡ constants_in ps ++ constants_in qs
constants-more [] qs = refl
constants-more (p ∷ ps) qs = ap (λ ts. constant_of p.statement ++ ts) (constants-more ps qs) ∙ sym (append_assoc (constant_of p.statement) (constants_in ps) (constants_in qs))

constants-within : (place : ℕ) (ss : List Statement) → constants_of ss ≡ constants_in (placed_in place ss)
constants-within place [] = refl
constants-within place (s ∷ ss) = ap (λ ts. constant_of s ++ ts) (constants-within place ss)

pub constants_placed : (place : ℕ) (ms : List (List Statement)) → all_constants ms ≡ constants_in (placed_from place ms)
constants_placed place [] = refl
constants_placed place (m ∷ ms) =
    (λ i. constants-within place m i ++ constants_placed (suc place) ms i) ∙ sym (constants-more (placed_in place m) (placed_from (suc place) ms))

enums-more : (ps qs : List Placed) → enums_in (ps ++ qs) ≡ enums_in ps ++ enums_in qs
enums-more [] qs = refl
enums-more (p ∷ ps) qs = ap (λ es. enum_of p.statement ++ es) (enums-more ps qs) ∙ sym (append_assoc (enum_of p.statement) (enums_in ps) (enums_in qs))

enums-within : (place : ℕ) (ss : List Statement) → enums_of ss ≡ enums_in (placed_in place ss)
enums-within place [] = refl
enums-within place (s ∷ ss) = ap (λ es. enum_of s ++ es) (enums-within place ss)

pub enums_placed : (place : ℕ) (ms : List (List Statement)) → all_enums ms ≡ enums_in (placed_from place ms)
enums_placed place [] = refl
enums_placed place (m ∷ ms) =
    (λ i. enums-within place m i ++ enums_placed (suc place) ms i) ∙ sym (enums-more (placed_in place m) (placed_from (suc place) ms))
