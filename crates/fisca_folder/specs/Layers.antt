-- The files of a rule set's folder with those of reforms laid over, and how their paths are told.
use Rattle.std.specs.Prelude.{◌≡◌, ℕ, ◌==◌, ◌++◌, ◌∷◌, [], List, length, map, All, Bool, not, if◌then◌else◌, codes, unwrap_or, string_bytes}
use Rattle.std.specs.List.{AllZip, filter, fold, list_any}
use Rattle.std.specs.Str.{bytes_eq}
use Rattle.fisca_params.specs.Source.{Source}
use Rattle.fisca_params.specs.Steps.Paths.{without_ending}
use Rattle.fisca_folder.specs.Folder.{Folder, AreFilesOf, IsRefused, line_of, slash}
use Rattle.fisca_folder.specs.Shown.{shown}
use Rattle.fisca_folder.specs.declared.folder.FolderFault.{FolderFault}
use Rattle.fisca_folder.specs.declared.folder.FolderFault.TheVariants.{CannotList, CannotRead, TooLong, TooManyFiles, Memory}

-- a file of this path is among these
abbrev pub has_path : List ℕ → List Source → Bool
has_path path files = list_any (λ file. bytes_eq file.path path) files

-- the text of a file that takes another away
abbrev pub is_empty : Source → Bool
is_empty file = length file.text == 0

-- these files with those of another folder laid over: a file gives way to one of its path, and one that is empty only takes it away
abbrev pub laid_over : List Source → List Source → List Source
laid_over files layer = filter (λ file. not (has_path file.path layer)) files ++ filter (λ file. not (is_empty file)) layer

-- the files that a folder is read into, and the name that it is told by
pub record Layer : Type 0 where
  pub name : List ℕ
  pub files : List Source

abbrev pub IsLayerOf : Folder → Layer → Type 0
IsLayerOf folder layer = (layer.name ≡ folder.name) × AreFilesOf folder layer.files

-- a path in the folder of this name, with one slash between them
abbrev pub path_below : List ℕ → List ℕ → List ℕ
path_below name path = unwrap_or (without_ending (codes "/") name) name ++ (slash ∷ path)

-- how the path of a rule file is told
pub record Told : Type 0 where
  pub path : List ℕ
  pub told : List ℕ

-- the path of each file of a layer is told in its folder
abbrev pub told_in : Layer → List Told
told_in layer = map (λ file. record { path = file.path; told = path_below layer.name file.path }) layer.files

-- a path is told as the first of these says, or as it is
abbrev pub told_at : List Told → List ℕ → List ℕ
told_at [] path = path
told_at (t ∷ told) path = if bytes_eq t.path path then t.told else told_at told path

-- the files of a rule set, and how their paths are told
pub record Laid : Type 0 where
  pub files : List Source
  pub told : List Told

-- with one layer more, whose paths are told before those below it
abbrev pub with_layer : Laid → Layer → Laid
with_layer laid layer = record { files = laid_over laid.files layer.files; told = told_in layer ++ laid.told }

-- the files of a rule set's own folder, whose paths are told as they are where there is no other
abbrev pub first_layer : Bool → Layer → Laid
first_layer is_alone layer = record { files = layer.files; told = if is_alone then [] else told_in layer }

-- the files of a rule set with those of reforms laid over, one reform after another
abbrev pub laid_of : Layer → List Layer → Laid
laid_of rules reforms = fold with_layer (first_layer (length reforms == 0) rules) reforms

-- what the folder of a rule set and those of reforms are read into
abbrev pub IsLaid : Folder → List Folder → Laid → Type 0
IsLaid rules reforms laid = (layer : Layer) × (layers : List Layer) × IsLayerOf rules layer × AllZip IsLayerOf reforms layers × (laid ≡ laid_of layer layers)

-- the folder at this place is the first that cannot be read, and this is why
abbrev pub IsFirstRefused : List Folder → ℕ → FolderFault → Type 0
IsFirstRefused folders place fault =
    (before : List Folder) × (folder : Folder) × (after : List Folder)
    × (folders ≡ before ++ folder ∷ after) × (length before ≡ place) × All (λ other. (files : List Source) × AreFilesOf other files) before × IsRefused folder fault

-- what is told of a fault in the folder of this name, where the paths of its files are told in it
abbrev pub line_below : List ℕ → FolderFault → List ℕ
line_below name CannotList = line_of name CannotList
line_below name (CannotRead path) = codes "fisca: " ++ shown (path_below name (string_bytes path)) ++ codes ": cannot read"
line_below name (TooLong path) = codes "fisca: " ++ shown (path_below name (string_bytes path)) ++ codes ":1: TooLong"
line_below name TooManyFiles = line_of name TooManyFiles
line_below name Memory = line_of name Memory
