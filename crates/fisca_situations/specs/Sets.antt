-- Keys of one variable and member that are set one after another.
use Rattle.std.specs.Prelude.{ℕ, List, [], ◌∷◌}
use Rattle.fisca_inputs.specs.Anew.{set_keys}
use Rattle.fisca_inputs.specs.Entries.{Entries, key}
use Rattle.fisca_model.specs.declared.value.Value.{Value}
use Rattle.fisca_time.specs.Period.{Span}

abbrev pub set_each : ℕ → ℕ → List Span → Value → Entries → Entries
set_each x m [] w es = es
set_each x m (p ∷ ps) w es = set_each x m ps w (set_keys (key x m p ∷ []) w es)
