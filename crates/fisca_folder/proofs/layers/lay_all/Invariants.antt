use Rattle.std.proofs.Common.{◌≡◌, List, drop}
use Rattle.std.specs.List.{AllZip}
use Rattle.fisca_folder.specs.Folder.{Folder}
use Rattle.fisca_folder.proofs.Laying.{IsUnderWay}
use Rattle.fisca_folder.proofs.layers.lay_all.Given as goal

-- so many reforms are laid over
abbrev pub invariant-loop-reform : goal.invariant-loop-reform
invariant-loop-reform g l =
    (l.folder ≡ l.reform-index)
    × ((others : List Folder) → AllZip g.F.RuleFolder.says l.reforms others → IsUnderWay g.F.RuleFolder.says (drop l.reform-index l.reforms) others l.reform-index l.fn.laid l.laid)
