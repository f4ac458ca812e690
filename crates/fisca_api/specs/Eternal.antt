-- What is given for eternity, whatever period is asked for.
use Rattle.std.specs.Prelude.{◌&&◌, ℕ, List, Bool, not, Option}
use Rattle.std.specs.List.{list_any}
use Rattle.fisca_inputs.specs.Entries.{Entries, key, value_at}
use Rattle.fisca_inputs.specs.Steps.Overlaps.{is_across, is_other}
use Rattle.fisca_inputs.specs.declared.given.Given.{Given}
use Rattle.fisca_model.specs.Tables.{otherwise}
use Rattle.fisca_model.specs.declared.key.Key.{Key}
use Rattle.fisca_model.specs.declared.value.Value.{Value}
use Rattle.fisca_time.specs.Period.{Span, eternity, is_eternal}

-- the key of this variable and member for eternity
abbrev pub eternal_key : Key → Key
eternal_key k = key k.variable k.member eternity

-- the input of a key, or else what stands for eternity
abbrev pub input_at : Entries → Key → Option Value
input_at es k = otherwise (value_at es k) (value_at es (eternal_key k))

-- an input of this variable and member is for another period that shares a day with this one; one for eternity is for every period
abbrev pub is_overlap : ℕ → ℕ → Span → Given → Bool
is_overlap x m p g = not (is_eternal g.period) && (is_across x m p g && is_other p g)

abbrev pub overlaps_another : List Given → ℕ → ℕ → Span → Bool
overlaps_another gs x m p = list_any (is_overlap x m p) gs
