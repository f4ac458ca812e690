-- Texts in quotes, piece by piece.
use Rattle.std.proofs.Common.{◌≡◌, ℕ, zero, suc, ◌++◌, List, [], ◌∷◌, drop, Bool, true, false, ◌==◌, if◌then◌else◌, Option, Some, None, refl, ◌∙◌, ap}
use Rattle.std.specs.List.{prefix_len}
use Rattle.fisca_ast.specs.Strings.{in_comment}
use Rattle.fisca_ast.specs.Strings.{is_quote}
use Rattle.fisca_ast.specs.Steps.Strings.{string_len}
use Rattle.fisca_ast.specs.Steps.Contents.{said_first, said_within}
use Rattle.fisca_ast.specs.ContentPieces.{quoted, front}

abbrev then_said : (List ℕ → List ℕ) → Option (List ℕ × List ℕ) → List ℕ
then_said others None = []
then_said others (Some p) = p.0 ++ others p.1

of_quoted : (others : List ℕ → List ℕ) (t : List ℕ) (n : Option ℕ) → said_first others t n ≡ then_said others (quoted t n)
of_quoted others t None = refl
of_quoted others t (Some n) = refl

of_other : (others : List ℕ → List ℕ) (c : Bool) (a b : List ℕ) → (if c then others a else others b) ≡ then_said others (if c then Some ([], a) else Some ([], b))
of_other others true a b = refl
of_other others false a b = refl

of_first : (others : List ℕ → List ℕ) (q c : Bool) (t a b : List ℕ) (n : Option ℕ) →
    (if q then said_first others t n else (if c then others a else others b)) ≡ then_said others (if q then quoted t n else (if c then Some ([], a) else Some ([], b)))
of_first others true c t a b n = of_quoted others t n
of_first others false c t a b n = of_other others c a b

-- what a text says is what its front says, and then the text behind it
said : (n : ℕ) (t : List ℕ) → said_within (suc n) t ≡ then_said (said_within n) (front t)
unfolding said_within
said n [] = refl
said n (b ∷ bs) = of_first (said_within n) (is_quote b) (b == 35) (b ∷ bs) (drop (prefix_len in_comment bs) bs) bs (string_len (b ∷ bs))

pub said_more : (n : ℕ) (t : List ℕ) (p : List ℕ × List ℕ) → front t ≡ Some p → said_within (suc n) t ≡ p.0 ++ said_within n p.1
said_more n t p e = said n t ∙ ap (then_said (said_within n)) e

pub said_nothing : (n : ℕ) (t : List ℕ) → front t ≡ None → said_within n t ≡ []
unfolding said_within
said_nothing zero t e = refl
said_nothing (suc n) t e = said n t ∙ ap (then_said (said_within n)) e

pub said_end : (n : ℕ) (t : List ℕ) → n ≡ 0 → said_within n t ≡ []
unfolding said_within
said_end zero t e = refl
said_end (suc n) t e = cc
