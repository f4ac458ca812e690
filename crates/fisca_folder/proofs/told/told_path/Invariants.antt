use Rattle.std.proofs.Common.{◌≡◌, drop}
use Rattle.fisca_folder.specs.Layers.{told_at}
use Rattle.fisca_folder.proofs.told.told_path.Given as goal

-- what is told is said by those that are left
abbrev pub invariant-loop-one : goal.invariant-loop-one
invariant-loop-one l = told_at l.told l.path ≡ told_at (drop l.one-index l.told) l.path
