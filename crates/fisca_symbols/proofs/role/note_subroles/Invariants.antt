use Rattle.std.proofs.Common.{◌≡◌, ℕ, List, drop, option_map}
use Rattle.std.specs.List.{position_from}
use Rattle.std.specs.Str.{bytes_eq}
use Rattle.fisca_symbols.specs.Steps.Spelling.{spelled}
use Rattle.fisca_model.specs.Tables.{otherwise, place_in, subrole_of}
use Rattle.indexmap.specs.IndexMap.{get}
use Rattle.fisca_symbols.proofs.role.note_subroles.Given as goal

abbrev pub invariant-loop-at : goal.invariant-loop-at
invariant-loop-at l = (t : List ℕ) →
    otherwise (get bytes_eq l.places t) (option_map (subrole_of l.role) (position_from (λ key. bytes_eq (spelled l.spelling key) t) l.at (drop l.at l.subroles)))
    ≡ otherwise (get bytes_eq l.initial.places t) (option_map (subrole_of l.role) (place_in (λ key. bytes_eq (spelled l.spelling key) t) l.subroles))
