-- The keys whose formulas were followed.
use Rattle.std.specs.Prelude.{◌≡◌, List, is_some}
use Rattle.fisca_evaluator.specs.Stamps.{found_fresh}
use Rattle.fisca_key_semantics.specs.Keys.{has}
use Rattle.fisca_model.specs.Values.{Key}
use Rattle.fisca_explain.specs.declared.keys.Followed.{Followed}

-- just the keys of the list are there
abbrev pub HasJust : List Key → Followed → Type 0
HasJust before f = (k : Key) → is_some (found_fresh f.keys.turned_at f.keys.entries.entries k) ≡ has before k
