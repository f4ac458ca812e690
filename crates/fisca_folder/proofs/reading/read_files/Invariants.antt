use Rattle.std.proofs.Common.{◌≡◌, ◌≤◌, ◌^◌, List, ◌++◌, String, Some, length, map, string_bytes, All}
use Rattle.std.specs.declared.alloc.Global.{Global}
use Rattle.fisca_folder.specs.Folder.{Folder, IsReadable, path_of}
use Rattle.fisca_folder.proofs.reading.read_files.Given as goal

-- the paths gone by can be read, and are those of the files
abbrev pub invariant-loop-path : goal.invariant-loop-path
invariant-loop-path g l =
    (gone : List (String Global)) × (l.fn.paths.items ≡ gone ++ l.path-iterator.rest.items)
    × (map path_of l.files.items ≡ map (λ path. string_bytes path) gone)
    × All (λ file. length file.text ≤ 2 ^ 20) l.files.items
    × ((known : Folder) → g.F.RuleFolder.says l.folder known → All (λ path. IsReadable (known.bytes path)) (map (λ path. string_bytes path) gone) × All (λ file. known.bytes file.path ≡ Some file.text) l.files.items)
