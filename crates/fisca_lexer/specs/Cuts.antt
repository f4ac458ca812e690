-- Places of tokens between the characters of a text.
use Rattle.std.specs.Prelude.{⊤, ℕ, ◌≤◌, List, [], ◌∷◌, IsCharBoundary}
use Rattle.fisca_lexer.specs.declared.token.Token.{Token}

-- what a token is of begins and ends between characters
pub record IsCut (text : List ℕ) (t : Token) : Type 0 where
  pub ordered : t.start ≤ t.end
  pub begins : IsCharBoundary text t.start
  pub ends : IsCharBoundary text t.end

-- so do all of these, and each stands behind the one before it; the first not before a place
abbrev pub AreCut : List ℕ → ℕ → List Token → Type 0
AreCut text at [] = ⊤
AreCut text at (t ∷ ts) = (at ≤ t.start) × IsCut text t × AreCut text t.end ts
