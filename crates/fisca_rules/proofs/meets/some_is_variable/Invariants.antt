use Rattle.std.proofs.Common.{Bool, drop}
use Rattle.indexmap.specs.IndexSet.{contains}
use Rattle.fisca_rules.specs.Seen.{NotesTitles, all_titles_within, same_within}
use Rattle.fisca_rules.specs.declared.within.Within.{Within}
use Rattle.fisca_rules.proofs.meets.some_is_variable.Given as goal

-- what is left decides
abbrev pub invariant-loop-role : goal.invariant-loop-role
invariant-loop-role l =
    (new : Within → Bool) (b : Bool) → NotesTitles (contains same_within l.variables) (contains same_within l.titles) new (all_titles_within l.constant (drop l.role-index l.roles)) b
    → NotesTitles (contains same_within l.variables) (contains same_within l.initial.titles) new (all_titles_within l.constant l.roles) b
