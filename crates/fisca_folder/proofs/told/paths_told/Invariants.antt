use Rattle.std.proofs.Common.{◌≡◌, take}
use Rattle.fisca_folder.specs.Layers.{told_in}
use Rattle.fisca_folder.proofs.told.paths_told.Given as goal

-- the paths so far
abbrev pub invariant-loop-file : goal.invariant-loop-file
invariant-loop-file l = l.told.items ≡ told_in (record { name = l.name; files = take l.file-index l.files })
