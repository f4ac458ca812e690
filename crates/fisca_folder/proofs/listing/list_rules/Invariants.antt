use Rattle.std.proofs.Common.{◌≡◌, ◌≤◌}
use Rattle.fisca_folder.specs.Folder.{Folder, found_in}
use Rattle.fisca_folder.proofs.listing.list_rules.Given as goal

-- so many levels are looked into
abbrev pub invariant-levels : goal.invariant-levels
invariant-levels g l = (l.found.seen ≤ 100000) × ((known : Folder) → g.F.RuleFolder.says l.folder known → l.found ≡ found_in known l.level)
