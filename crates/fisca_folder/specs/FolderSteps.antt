-- Steps on the way to what a folder holds, which only private functions name.
use Rattle.std.specs.Prelude.{◌≡◌, ⊤, string_bytes, ℕ, ◌+◌, ◌++◌, ◌∷◌, [], List, length, not, is_some, if◌then◌else◌}
use Rattle.fisca_folder.specs.Steps.RulePaths.{is_rule_path}
use Rattle.fisca_folder.specs.declared.folder.FolderFault.{FolderFault}
use Rattle.fisca_folder.specs.declared.folder.FolderFault.TheVariants.{CannotList, CannotRead, TooLong, TooManyFiles, Memory}
use Rattle.fisca_folder.specs.Folder.{Entry, Folder, Found, entries_of, path_in}
use Rattle.fisca_folder.specs.Steps.Folder.{counts_as_folder}

-- with one entry of a folder more
abbrev pub with_entry : List ℕ → Found → Entry → Found
with_entry path found entry =
    let place = path_in path entry in
    if counts_as_folder place entry.is_folder then record found { deeper = found.deeper ++ place ∷ [] }
    else (if is_rule_path place then record found { files = found.files ++ place ∷ [] } else found)

-- the files and folders that are looked at in one folder, after so many
abbrev pub looked_at : Folder → List ℕ → ℕ → Found
looked_at folder path seen = record { deeper = []; files = []; seen = seen + length (entries_of folder path); is_short = not (is_some (folder.entries path)) }

-- told is that the file at this path cannot be read, or that memory was refused
abbrev pub IsUnread : List ℕ → FolderFault → Type 0
IsUnread path CannotList = ⊥
IsUnread path (CannotRead told) = string_bytes told ≡ path
IsUnread path (TooLong told) = ⊥
IsUnread path TooManyFiles = ⊥
IsUnread path Memory = ⊤

-- told is that the file at this path is too long, or that memory was refused
abbrev pub IsOverlong : List ℕ → FolderFault → Type 0
IsOverlong path CannotList = ⊥
IsOverlong path (CannotRead told) = ⊥
IsOverlong path (TooLong told) = string_bytes told ≡ path
IsOverlong path TooManyFiles = ⊥
IsOverlong path Memory = ⊤
