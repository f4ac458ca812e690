use Rattle.std.proofs.Common.{◌≡◌, take, fold}
use Rattle.fisca_folder.specs.FolderSteps.{with_entry}
use Rattle.fisca_folder.proofs.listing.look_into.Given as goal

-- the entries so far are added
abbrev pub invariant-loop-entry : goal.invariant-loop-entry
invariant-loop-entry g l = l.found ≡ fold (with_entry l.path) l.initial.found (take l.entry-index l.entry-items)
