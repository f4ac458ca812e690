-- When wheels turned, and what was kept before that.
use Rattle.std.specs.Prelude.{ℕ, ◌/◌, ◌%◌, Bool, true, ◌==◌, ◌&&◌, ◌||◌, nat_le, List, [], ◌∷◌, Option, None, Some, if◌then◌else◌}
use Rattle.std.specs.Map.{lookup}
use Rattle.fisca_memo_theory.specs.Entries.{Entry}
use Rattle.fisca_inputs.specs.Entries.{same_key}
use Rattle.fisca_model.specs.declared.key.Key.{Key}
use Rattle.fisca_model.specs.Values as meaning
use Rattle.fisca_evaluator.specs.Found.{found_by}
use Rattle.fisca_evaluator.specs.declared.known.Known.{Known}
use Rattle.fisca_evaluator.specs.declared.known.Stamped.{Stamped}

-- no wheel of the set, whose bits are these, turned later than that
abbrev pub fresh : List ℕ → ℕ → ℕ → Bool
fresh [] wheels since = true
fresh (first ∷ rest) wheels since = ((wheels % 2 == 0) || nat_le first since) && fresh rest (wheels / 2) since

-- what was kept, unless a wheel that it reads has turned since
abbrev pub if_fresh : List ℕ → Option Stamped → Option Known
if_fresh turned_at None = None
if_fresh turned_at (Some s) = if fresh turned_at s.known.reads s.kept_at then Some s.known else None

-- the first pair of the key, if it is fresh
abbrev pub found_fresh : List ℕ → List (Key × Stamped) → meaning.Key → Option Entry
found_fresh turned_at pairs = found_by (λ k. if_fresh turned_at (lookup (same_key k) pairs))
