-- A sum that is worked out bracket by bracket: each counts once the next threshold is known.
use Rattle.std.specs.Prelude.{Option, Some, None, Ok}
use Rattle.fisca_num.specs.Number.{Number, zero_number}
use Rattle.fisca_scales.specs.declared.bracket.CompleteBracket.{CompleteBracket}
use Rattle.fisca_scales.specs.declared.bracket.ScaleKind.{ScaleKind}
use Rattle.fisca_scales.specs.declared.tally.Tally.{Tally}

abbrev pub empty_tally : ScaleKind → Number → Tally
empty_tally kind base = record { kind = kind; base = base; last = None; sum = Ok zero_number }

abbrev pub threshold_of : Option CompleteBracket → Option Number
threshold_of None = None
threshold_of (Some b) = Some b.threshold
