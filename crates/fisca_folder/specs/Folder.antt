-- Which files of a folder are the rule set's, in which order, how deep and how many, and what is refused.
use Rattle.std.specs.Prelude.{◌≡◌, ℕ, zero, suc, ◌+◌, ◌<◌, ◌≤◌, ◌^◌, ◌++◌, ◌∷◌, [], List, length, map, All, IsSorted, IsPermutation, Bool, true, false, not, ◌&&◌, ◌||◌, if◌then◌else◌, codes, Option, Some, None, is_some, unwrap_or, Result, Ok, Err, ⊤, ◌⊎◌, String, string_bytes}
use Rattle.std.specs.declared.alloc.Global.{Global}
use Rattle.std.specs.List.{filter, fold, list_any}
use Rattle.std.specs.Str.{IsUtf8, bytes_eq}
use Rattle.std.specs.Cmp.Lexicographic.{slice_cmp}
use Rattle.std.specs.Ordering.{nat_cmp}
use Rattle.fisca_folder.specs.Steps.RulePaths.{is_rule_path}
use Rattle.fisca_params.specs.Source.{Source}
use Rattle.fisca_folder.specs.Shown.{shown}
use Rattle.fisca_folder.specs.declared.folder.FolderFault.{FolderFault}
use Rattle.fisca_folder.specs.declared.folder.FolderFault.TheVariants.{CannotList, CannotRead, TooLong, TooManyFiles, Memory}
use Rattle.fisca_folder.specs.Steps.Folder.{counts_as_folder}

-- an entry of a folder: its name, and whether it leads to a folder; `None` where the machine cannot tell, as of a link that
-- leads nowhere
pub record Entry : Type 0 where
  pub name : List ℕ
  pub is_folder : Option Bool

-- what a machine says of a rule set's folder: the name that it is told by, and the entries of a folder and the bytes of a file by its
-- path, which is empty for the rule set's own folder; `None` where it cannot
pub record Folder : Type 0 where
  pub name : List ℕ
  pub entries : List ℕ → Option (List Entry)
  pub bytes : List ℕ → Option (List ℕ)

abbrev pub entries_of : Folder → List ℕ → List Entry
entries_of folder path = unwrap_or (folder.entries path) []

abbrev pub slash : ℕ
slash = 47

-- the path of an entry
abbrev pub path_in : List ℕ → Entry → List ℕ
path_in path entry = path ++ (slash ∷ entry.name)

-- the same of an entry of a folder
abbrev pub is_folder_in : List ℕ → Entry → Bool
is_folder_in path entry = counts_as_folder (path_in path entry) entry.is_folder

-- the folders in a folder
abbrev pub folders_in : List ℕ → List Entry → List (List ℕ)
folders_in path entries = map (path_in path) (filter (is_folder_in path) entries)

-- the rule set's files in a folder
abbrev pub files_in : List ℕ → List Entry → List (List ℕ)
files_in path entries = filter is_rule_path (map (path_in path) (filter (λ entry. not (is_folder_in path entry)) entries))

-- this name, where an entry has it
abbrev pub named : List ℕ → List Entry → List (List ℕ)
named name entries = if list_any (λ entry. bytes_eq entry.name name) entries then name ∷ [] else []

-- this name, where a folder has it: a file that has it is no rule file
abbrev pub folder_named : List ℕ → List Entry → List (List ℕ)
folder_named name entries = if list_any (λ entry. counts_as_folder entry.name entry.is_folder && bytes_eq entry.name name) entries then name ∷ [] else []

-- the folders `parameters` and `variables`, where they are there
abbrev pub top_of : List Entry → List (List ℕ)
top_of entries = folder_named (codes "parameters") entries ++ folder_named (codes "variables") entries

-- the file `entities.py`, where it is there
abbrev pub top_files_of : List Entry → List (List ℕ)
top_files_of entries = named (codes "entities.py") entries

-- what is found in some levels of folders: the folders one level deeper, the rule set's files, how many files and folders were
-- looked at, and whether a folder cannot be listed
pub record Found : Type 0 where
  pub deeper : List (List ℕ)
  pub files : List (List ℕ)
  pub seen : ℕ
  pub is_short : Bool

-- with one folder more
abbrev pub with_folder : Folder → Found → List ℕ → Found
with_folder folder found path =
    let entries = entries_of folder path in
    record {
      deeper = found.deeper ++ folders_in path entries;
      files = found.files ++ files_in path entries;
      seen = found.seen + length entries;
      is_short = found.is_short || not (is_some (folder.entries path));
    }

-- before any level
abbrev pub found_on_top : Folder → Found
found_on_top folder =
    let entries = entries_of folder [] in
    record { deeper = top_of entries; files = top_files_of entries; seen = length entries; is_short = not (is_some (folder.entries [])) }

-- in one level more
abbrev pub found_deeper : Folder → Found → Found
found_deeper folder found = fold (with_folder folder) (record found { deeper = [] }) found.deeper

unfoldable pub found_in : Folder → ℕ → Found
found_in folder zero = found_on_top folder
found_in folder (suc levels) = found_deeper folder (found_in folder levels)

-- the paths of the rule set's files, in order of their bytes: those in eight levels of folders, where each can be listed, no
-- more than 100,000 files and folders are looked at and no more than 1,000 of them are the rule set's files
pub record AreRulePaths (folder : Folder) (paths : List (List ℕ)) : Type 0 where
  pub whole : (found_in folder 8).is_short ≡ false
  pub few : (found_in folder 8).seen ≤ 100000
  pub bounded : length (found_in folder 8).files ≤ 1000
  pub same : IsPermutation (found_in folder 8).files paths
  pub order : IsSorted (slice_cmp nat_cmp) paths

-- what is refused of what is found in some levels, while they are looked into
abbrev pub IsListFault : Found → FolderFault → Type 0
IsListFault found CannotList = found.is_short ≡ true
IsListFault found (CannotRead path) = ⊥
IsListFault found (TooLong path) = ⊥
IsListFault found TooManyFiles = 100000 < found.seen
IsListFault found Memory = ⊤

-- what is refused of what is found in all levels
abbrev pub IsListRefusal : Found → FolderFault → Type 0
IsListRefusal found CannotList = found.is_short ≡ true
IsListRefusal found (CannotRead path) = ⊥
IsListRefusal found (TooLong path) = ⊥
IsListRefusal found TooManyFiles = (100000 < found.seen) ⊎ (1000 < length found.files)
IsListRefusal found Memory = ⊤

-- a file can be read, has at most 1 MiB and is UTF-8
abbrev pub IsReadable : Option (List ℕ) → Type 0
IsReadable None = ⊥
IsReadable (Some bytes) = (length bytes ≤ 2 ^ 20) × IsUtf8 bytes

-- a file that cannot be read: none that is too long
abbrev pub IsUnreadable : Option (List ℕ) → Type 0
IsUnreadable None = ⊤
IsUnreadable (Some bytes) = (length bytes ≤ 2 ^ 20) × ¬ (IsUtf8 bytes)

abbrev pub IsTooLong : Option (List ℕ) → Type 0
IsTooLong None = ⊥
IsTooLong (Some bytes) = 2 ^ 20 < length bytes

-- what is refused of a file with these bytes at this path
abbrev pub IsFileFault : List ℕ → Option (List ℕ) → FolderFault → Type 0
IsFileFault path bytes CannotList = ⊥
IsFileFault path bytes (CannotRead told) = IsUnreadable bytes × (string_bytes told ≡ path)
IsFileFault path bytes (TooLong told) = IsTooLong bytes × (string_bytes told ≡ path)
IsFileFault path bytes TooManyFiles = ⊥
IsFileFault path bytes Memory = ⊤

-- what is answered of a file with these bytes at this path: its text, or why it is refused
abbrev pub IsTextOf : List ℕ → Option (List ℕ) → Result (String Global) FolderFault → Type 0
IsTextOf path bytes (Ok text) = (bytes ≡ Some (string_bytes text)) × IsReadable bytes
IsTextOf path bytes (Err fault) = IsFileFault path bytes fault

abbrev pub path_of : Source → List ℕ
path_of file = file.path

-- the files at these paths, where each can be read
pub record AreRead (folder : Folder) (paths : List (List ℕ)) (files : List Source) : Type 0 where
  pub readable : All (λ path. IsReadable (folder.bytes path)) paths
  pub named : map path_of files ≡ paths
  pub texts : All (λ file. folder.bytes file.path ≡ Some file.text) files

-- the first of these files that is refused is refused so
abbrev pub IsFirstFault : Folder → List (List ℕ) → FolderFault → Type 0
IsFirstFault folder paths fault =
    (front : List (List ℕ)) × (path : List ℕ) × (rest : List (List ℕ))
    × (paths ≡ front ++ path ∷ rest) × All (λ file. IsReadable (folder.bytes file)) front × IsFileFault path (folder.bytes path) fault

-- the files that a folder is read into
abbrev pub AreFilesOf : Folder → List Source → Type 0
AreFilesOf folder files = (paths : List (List ℕ)) × AreRulePaths folder paths × AreRead folder paths files

-- the first fault of a file of the folder
abbrev pub IsFaultIn : Folder → FolderFault → Type 0
IsFaultIn folder fault = (paths : List (List ℕ)) × AreRulePaths folder paths × IsFirstFault folder paths fault

-- why a folder is refused: a folder that cannot be listed and too many files are told before any file is read
abbrev pub IsRefused : Folder → FolderFault → Type 0
IsRefused folder CannotList = (found_in folder 8).is_short ≡ true
IsRefused folder (CannotRead path) = IsFaultIn folder (CannotRead path)
IsRefused folder (TooLong path) = IsFaultIn folder (TooLong path)
IsRefused folder TooManyFiles = (100000 < (found_in folder 8).seen) ⊎ (1000 < length (found_in folder 8).files)
IsRefused folder Memory = ⊤

-- at most 1,000 files, in order of the bytes of their paths, each of at most 1 MiB
pub record AreRuleFiles (files : List Source) : Type 0 where
  pub few : length files ≤ 1000
  pub order : IsSorted (slice_cmp nat_cmp) (map path_of files)
  pub short : All (λ file. length file.text ≤ 2 ^ 20) files

-- 3: a file is refused unread; 5: a folder or a file cannot be read; 6: memory
abbrev pub status_of : FolderFault → ℕ
status_of CannotList = 5
status_of (CannotRead path) = 5
status_of (TooLong path) = 3
status_of TooManyFiles = 3
status_of Memory = 6

-- what is told of the folder `rules`
abbrev pub line_of : List ℕ → FolderFault → List ℕ
line_of rules CannotList = codes "fisca: cannot list " ++ shown rules
line_of rules (CannotRead path) = codes "fisca: " ++ shown (string_bytes path) ++ codes ": cannot read"
line_of rules (TooLong path) = codes "fisca: " ++ shown (string_bytes path) ++ codes ":1: TooLong"
line_of rules TooManyFiles = codes "fisca: TooManyFiles"
line_of rules Memory = codes "fisca: out of memory"
