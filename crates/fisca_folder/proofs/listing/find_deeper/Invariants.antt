use Rattle.std.proofs.Common.{◌≡◌, ◌≤◌, fold, map, string_bytes, take}
use Rattle.fisca_folder.specs.Folder.{Folder, with_folder}
use Rattle.fisca_folder.proofs.listing.find_deeper.Given as goal

-- the folders so far are looked into
abbrev pub invariant-loop-path : goal.invariant-loop-path
invariant-loop-path g l =
    (l.found.seen ≤ 100000)
    × ((known : Folder) → g.F.RuleFolder.says l.folder known → l.found ≡ fold (with_folder known) l.initial.found (map (λ path. string_bytes path) (take l.path-index l.path-items)))
