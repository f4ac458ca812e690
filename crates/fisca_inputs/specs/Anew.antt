-- Values that are set anew, where no key comes or goes.
use Rattle.std.specs.Prelude.{List, map, if◌then◌else◌}
use Rattle.std.specs.List.{list_any}
use Rattle.fisca_inputs.specs.Entries.{Entries, same_key}
use Rattle.fisca_model.specs.declared.key.Key.{Key}
use Rattle.fisca_model.specs.declared.value.Value.{Value}

-- the entries, where each of these keys that has a value has this one
abbrev pub set_keys : List Key → Value → Entries → Entries
set_keys ks x es = map (λ e. (e.0, if list_any (same_key e.0) ks then x else e.1)) es
