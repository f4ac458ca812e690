-- What is given of an entity, taken out of a draft and put back with more.
use Rattle.std.proofs.Common.{◌≡◌, ◌<◌, ◌≤◌, ℕ, List, length, get_or, set, Option, Some, option_map, Result, Ok, Err, sym, ap, ◌∙◌}
use Rattle.std.proofs.lemmas.List.{map-set}
use Rattle.std.proofs.lemmas.Option.{slice_get-get_or, slice_get-map, slice_get_past}
use Rattle.fisca_num.specs.Results.{and_then}
use Rattle.fisca_groups.specs.declared.entity_members.EntityMembers.{EntityMembers}
use Rattle.fisca_members.specs.declared.fault.MembersFault.{MembersFault}
use Rattle.fisca_members.specs.declared.person.Person.{Person}
use Rattle.fisca_members.specs.Steps.Drafts.{drafted, given_or}
use Rattle.fisca_members.specs.Outcomes.{Leaves}
use Rattle.fisca_members.specs.Steps.Members.{changed_at, changed_by}

changed_by_given : (ps : List Person) (ds : List (Option EntityMembers)) (place : ℕ) (given : Option EntityMembers) (change : EntityMembers → Result EntityMembers MembersFault)
    → place < length ds → given ≡ get_or ds place given
    → changed_at (drafted ps ds) place change ≡ and_then (change (given_or ps given)) (λ j. Ok (set (drafted ps ds) place j))
changed_by_given ps ds place given change within there =
    ap (changed_by (drafted ps ds) place change)
    (slice_get-map (given_or ps) ds place ∙ ap (option_map (given_or ps)) (slice_get-get_or ds place given within ∙ ap Some (sym there)))

-- the members at a place changed
changed_there : (ps : List Person) (ds : List (Option EntityMembers)) (place : ℕ) (given new : Option EntityMembers) (change : EntityMembers → Result EntityMembers MembersFault)
    → place < length ds → given ≡ get_or ds place given → change (given_or ps given) ≡ Ok (given_or ps new)
    → changed_at (drafted ps ds) place change ≡ Ok (drafted ps (set ds place new))
changed_there ps ds place given new change within there told =
    changed_by_given ps ds place given change within there ∙ ap (λ r. and_then r (λ j. Ok (set (drafted ps ds) place j))) told ∙ ap Ok (sym (map-set (given_or ps) ds place new))

-- the change's fault
fault_there : (ps : List Person) (ds : List (Option EntityMembers)) (place : ℕ) (given : Option EntityMembers) (change : EntityMembers → Result EntityMembers MembersFault)
    (f : MembersFault) → place < length ds → given ≡ get_or ds place given → change (given_or ps given) ≡ Err f → changed_at (drafted ps ds) place change ≡ Err f
fault_there ps ds place given change f within there told =
    changed_by_given ps ds place given change within there ∙ ap (λ r. and_then r (λ j. Ok (set (drafted ps ds) place j))) told

-- the members at a place, where a call changes what is given there
pub left_there : (ps : List Person) (ds : List (Option EntityMembers)) (place : ℕ) (given new : Option EntityMembers) (change : EntityMembers → Result EntityMembers MembersFault)
    (r : Result (Unit {0}) MembersFault) → place < length ds → given ≡ get_or ds place given → Leaves (given_or ps new) (change (given_or ps given)) r
    → Leaves (drafted ps (set ds place new)) (changed_at (drafted ps ds) place change) r
left_there ps ds place given new change (Ok x) within there left = changed_there ps ds place given new change within there left
left_there ps ds place given new change (Err f) within there left = (λ n. fault_there ps ds place given change f within there (left.0 n), left.1)

-- past the entities nothing is changed
pub none_there : (ps : List Person) (ds : List (Option EntityMembers)) (place : ℕ) (change : EntityMembers → Result EntityMembers MembersFault)
    → length ds ≤ place → changed_at (drafted ps ds) place change ≡ Ok (drafted ps ds)
none_there ps ds place change past =
    ap (changed_by (drafted ps ds) place change) (slice_get-map (given_or ps) ds place ∙ ap (option_map (given_or ps)) (slice_get_past ds place past))
