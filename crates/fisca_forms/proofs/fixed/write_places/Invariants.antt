use Rattle.std.proofs.Common.{◌≡◌, ◌≤◌, ◌∷◌, [], ◌++◌, string_bytes}
use Rattle.fisca_forms.specs.Fixed.{places_of}
use Rattle.fisca_num.specs.Characters.{point}
use Rattle.fisca_forms.proofs.fixed.write_places.Given as goal

-- the places that are left follow those that are written
abbrev pub invariant-loop-left : goal.invariant-loop-left
invariant-loop-left l = (l.left ≤ l.fn.places) × (string_bytes l.line ++ places_of l.left l.fn.rest ≡ (string_bytes l.fn.line ++ point ∷ []) ++ places_of l.fn.places l.fn.rest)

abbrev pub decreases-loop-left : goal.decreases-loop-left
decreases-loop-left l = l.left
