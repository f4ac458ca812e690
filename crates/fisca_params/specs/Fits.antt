-- Which files make a tree, said without building one.
use Rattle.std.specs.Prelude.{◌≡◌, ℕ, false, true, List, [], ◌∷◌, Some, None}
use Rattle.std.specs.Str.{bytes_eq}
use Rattle.std.specs.Prelude.{codes}
use Rattle.fisca_yaml.specs.Steps.Find.{get}
use Rattle.fisca_yaml.specs.Grouping.{document}
use Rattle.fisca_yaml.specs.Node.{Node, null, scalar, list, map, Entries, no_entries, entry}
use Rattle.fisca_params.specs.Paths.{names_of}
use Rattle.fisca_params.specs.Places.{content_in, is_branch}
use Rattle.fisca_params.specs.Source.{Source}
use Rattle.fisca_params.specs.Steps.Tree.{describes_folder, is_description}
use Rattle.fisca_params.specs.declared.content.Content.{Content}

abbrev mutual
  -- a map is a parameter, a scale, or a branch whose children fit
  pub Fits : Node → Type 0
  Fits null = ⊥
  Fits (scalar text q l) = ⊥
  Fits (list is) = ⊥
  Fits (map es) = ((c : Content) × (content_in (map es) ≡ Some c)) × (is_branch (map es) ≡ true → ChildrenFit es)

  -- each fits, and no key comes twice
  pub ChildrenFit : Entries → Type 0
  ChildrenFit no_entries = Unit
  ChildrenFit (entry key line n es) = (is_description key ≡ false → Fits n × (get key (map es) ≡ None)) × ChildrenFit es

-- the tree of a file of these names: an `index` describes its folder
abbrev pub FitsAt : List (List ℕ) → Node → Type 0
FitsAt [] n = Unit
FitsAt (name ∷ []) n = (bytes_eq name (codes "index") ≡ true → describes_folder n ≡ true) × (bytes_eq name (codes "index") ≡ false → Fits n)
FitsAt (name ∷ m ∷ ms) n = FitsAt (m ∷ ms) n

-- a parameter file has a document, which fits
abbrev pub FileFits : Source → Type 0
FileFits f = (names : List (List ℕ)) → names_of f.path ≡ Some names → (n : Node) × (document f.text ≡ Some n) × FitsAt names n

-- a file of the first names has its node where a file of the others has its own, or a folder
abbrev pub IsInTheWay : List (List ℕ) → List (List ℕ) → Type 0
IsInTheWay [] others = ⊥
IsInTheWay (name ∷ names) [] = ⊥
IsInTheWay (name ∷ []) (other ∷ others) = (name ≡ other) × (bytes_eq name (codes "index") ≡ false)
IsInTheWay (name ∷ m ∷ ms) (other ∷ others) = (name ≡ other) × IsInTheWay (m ∷ ms) others

-- the names of two parameter files differ
abbrev pub AreApart : Source → Source → Type 0
AreApart f g =
    (own others : List (List ℕ)) → names_of f.path ≡ Some own → names_of g.path ≡ Some others → ¬ (IsInTheWay own others) × ¬ (IsInTheWay others own)

abbrev pub IsApart : Source → List Source → Type 0
IsApart f [] = Unit
IsApart f (g ∷ gs) = AreApart f g × IsApart f gs

-- each file fits, and the names of any two differ
abbrev pub AllFit : List Source → Type 0
AllFit [] = Unit
AllFit (f ∷ fs) = FileFits f × IsApart f fs × AllFit fs
