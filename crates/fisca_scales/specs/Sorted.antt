-- Brackets that stand in a map by their thresholds, and by their places where thresholds are one.
use Rattle.std.specs.Prelude.{ℕ}
use Rattle.fisca_num.specs.Number.{Number}
use Rattle.fisca_scales.specs.declared.bracket.CompleteBracket.{CompleteBracket}

abbrev pub bracket_of : (Number × ℕ) × Number → CompleteBracket
bracket_of e = record { threshold = e.0.0; value = e.1 }
