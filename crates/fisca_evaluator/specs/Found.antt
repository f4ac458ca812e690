-- What is found of keys in a list of pairs.
use Rattle.std.specs.Prelude.{ℕ, suc, Bool, List, [], ◌∷◌, Option, None, Some, option_map, if◌then◌else◌}
use Rattle.std.specs.Map.{lookup}
use Rattle.fisca_memo_theory.specs.Entries.{Entry}
use Rattle.fisca_inputs.specs.Entries.{same_key}
use Rattle.fisca_model.specs.Seen.{key_of, value_seen}
use Rattle.fisca_model.specs.declared.key.Key.{Key}
use Rattle.fisca_model.specs.Values as meaning
use Rattle.fisca_time.specs.Period.{is_period}
use Rattle.fisca_evaluator.specs.declared.known.Known.{Known}

abbrev pub entry_seen : Known → Entry
entry_seen k = record { value = value_seen k.value; height = k.height; reads = k.reads }

-- what stands at the key; at a key whose period is none there is nothing
abbrev pub found_by : (Key → Option Known) → meaning.Key → Option Entry
found_by at k = if is_period k.period then option_map entry_seen (at (key_of k)) else None

-- the first pair of the key
abbrev pub found : List (Key × Known) → meaning.Key → Option Entry
found pairs = found_by (λ k. lookup (same_key k) pairs)

-- what is there, unless it passes the test
abbrev pub unless : {X : Type 0} → (X → Bool) → Option X → Option X
unless test None = None
unless test (Some x) = if test x then None else Some x

-- the place of the first pair of the key, where the list begins with this place
abbrev pub place_from : ℕ → Key → List (Key × Known) → Option ℕ
place_from at key [] = None
place_from at key (p ∷ ps) = if same_key key p.0 then Some at else place_from (suc at) key ps
