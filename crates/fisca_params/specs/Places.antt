-- What stands where in a tree of parameters.
use Rattle.std.specs.Prelude.{◌≡◌, ◌⊎◌, ℕ, ◌<◌, length, Bool, true, false, ◌&&◌, List, [], ◌∷◌, Option, Some, None, is_none, option_and_then, codes}
use Rattle.std.specs.Str.{bytes_eq}
use Rattle.fisca_yaml.specs.Steps.Find.{get}
use Rattle.fisca_yaml.specs.Grouping.{document}
use Rattle.fisca_yaml.specs.Node.{Node, null, scalar, list, map, Entries, no_entries, entry}
use Rattle.fisca_params.specs.Steps.Content.{date_map, parameter_in, scale_of}
use Rattle.fisca_params.specs.Paths.{names_of}
use Rattle.fisca_params.specs.Source.{Source}
use Rattle.fisca_params.specs.Tree.{TreeNode, child_of, content_at}
use Rattle.fisca_params.specs.Steps.Tree.{is_description}
use Rattle.fisca_params.specs.declared.content.Content.{Content}
use Rattle.fisca_params.specs.declared.content.Content.TheVariants as content

-- a parameter where a map has a date map, else a scale where it has brackets, else a branch
abbrev pub content_by : Node → Option Node → Option Node → Option Content
content_by n (Some values) brackets = parameter_in values
content_by n None (Some brackets) = scale_of n brackets
content_by n None None = Some content.Branch

abbrev pub content_in : Node → Option Content
content_in n = content_by n (date_map n) (get (codes "brackets") n)

abbrev pub is_branch : Node → Bool
is_branch n = is_none (date_map n) && is_none (get (codes "brackets") n)

abbrev mutual
  -- what a map of a file says stands at this place, and of a branch each child stands below it
  pub Stands : List TreeNode → ℕ → Node → Type 0
  Stands t place null = ⊥
  Stands t place (scalar text q l) = ⊥
  Stands t place (list is) = ⊥
  Stands t place (map es) =
      ((c : Content) × (content_in (map es) ≡ Some c) × (content_at t place ≡ Some c))
      × (is_branch (map es) ≡ true → ChildrenStand t place es)

  pub ChildrenStand : List TreeNode → ℕ → Entries → Type 0
  ChildrenStand t place no_entries = Unit
  ChildrenStand t place (entry key line n es) =
      (is_description key ≡ false → (child : ℕ) × (child_of t place key ≡ Some child) × Stands t child n)
      × ChildrenStand t place es

-- below the folders that these names but the last are, the node of the last; an `index` is none
abbrev pub StandsBelow : List TreeNode → ℕ → List (List ℕ) → Node → Type 0
StandsBelow t folder [] n = Unit
StandsBelow t folder (name ∷ []) n =
    bytes_eq name (codes "index") ≡ false → (child : ℕ) × (child_of t folder name ≡ Some child) × Stands t child n
StandsBelow t folder (name ∷ m ∷ ms) n =
    (child : ℕ) × (child_of t folder name ≡ Some child) × (content_at t child ≡ Some content.Folder) × StandsBelow t child (m ∷ ms) n

-- where it is a parameter file, what it says stands where its path says
abbrev pub StandsAtItsPath : List TreeNode → Source → Type 0
StandsAtItsPath t f =
    (names : List (List ℕ)) (n : Node) → names_of f.path ≡ Some names → document f.text ≡ Some n → StandsBelow t 0 names n

abbrev pub EachStands : List TreeNode → List Source → Type 0
EachStands t [] = Unit
EachStands t (f ∷ fs) = StandsAtItsPath t f × EachStands t fs

-- the place that names lead to, from a node on
abbrev pub walk : List TreeNode → ℕ → List (List ℕ) → Option ℕ
walk t place [] = Some place
walk t place (name ∷ names) = option_and_then (λ child. walk t child names) (child_of t place name)

-- names from the root lead to each node, and to each of them no others
abbrev pub EachReachedOnce : List TreeNode → Type 0
EachReachedOnce t =
    (place : ℕ) → place < length t → (names : List (List ℕ)) × (walk t 0 names ≡ Some place) × ((others : List (List ℕ)) → walk t 0 others ≡ Some place → names ≡ others)

abbrev mutual
  -- a map of a file says that this stands at these names below it
  pub Says : Node → List (List ℕ) → Content → Type 0
  Says null names c = ⊥
  Says (scalar text q l) names c = ⊥
  Says (list is) names c = ⊥
  Says (map es) [] c = content_in (map es) ≡ Some c
  Says (map es) (name ∷ names) c = (is_branch (map es) ≡ true) × EntrySays es name names c

  pub EntrySays : Entries → List ℕ → List (List ℕ) → Content → Type 0
  EntrySays no_entries name names c = ⊥
  EntrySays (entry key line n es) name names c =
      ((is_description key ≡ false) × (key ≡ name) × Says n names c) ⊎ EntrySays es name names c

-- a file of these names says so: of its folders that they are folders, of its own name what its map says
abbrev pub SaysBelow : List (List ℕ) → Node → List (List ℕ) → Content → Type 0
SaysBelow own n [] c = c ≡ content.Folder
SaysBelow [] n (name ∷ names) c = ⊥
SaysBelow (first ∷ []) n (name ∷ names) c = (first ≡ name) × (bytes_eq first (codes "index") ≡ false) × Says n names c
SaysBelow (first ∷ m ∷ ms) n (name ∷ names) c = (first ≡ name) × SaysBelow (m ∷ ms) n names c

abbrev pub FileSays : Source → List (List ℕ) → Content → Type 0
FileSays f names c =
    (own : List (List ℕ)) × (n : Node) × (names_of f.path ≡ Some own) × (document f.text ≡ Some n) × SaysBelow own n names c

-- some file says so, or it is the folder `parameters`
abbrev pub SomeFileSays : List Source → List (List ℕ) → Content → Type 0
SomeFileSays [] names c = (names ≡ []) × (c ≡ content.Folder)
SomeFileSays (f ∷ fs) names c = FileSays f names c ⊎ SomeFileSays fs names c
