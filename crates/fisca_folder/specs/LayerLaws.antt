-- What files laid over one another come to, in other words.
use Rattle.std.specs.Prelude.{◌≡◌, ℕ, ◌++◌, ◌∷◌, List, All, true, false}
use Rattle.std.specs.List.{filter}
use Rattle.std.specs.Str.{bytes_eq}
use Rattle.fisca_params.specs.Source.{Source}
use Rattle.fisca_folder.specs.Layers.{has_path, Layer}

-- the files of this path
abbrev pub at_path : List ℕ → List Source → List Source
at_path path files = filter (λ file. bytes_eq file.path path) files

-- no layer has a file of this path
abbrev pub HaveNone : List ℕ → List Layer → Type 0
HaveNone path layers = All (λ layer. has_path path layer.files ≡ false) layers

-- this layer is the last that has a file of this path
pub record IsLastWith (path : List ℕ) (layers : List Layer) (layer : Layer) : Type 0 where
  pub before : List Layer
  pub after : List Layer
  pub split : layers ≡ before ++ layer ∷ after
  pub has : has_path path layer.files ≡ true
  pub none : HaveNone path after
