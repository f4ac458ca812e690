-- Which number a rational is.
use Rattle.std.specs.Prelude.{◌≡◌, Result, Ok, Err}
use Rattle.fisca_num.specs.declared.faults.NumFault.{NumFault}
use Rattle.fisca_num.specs.declared.faults.NumFault.TheVariants.{TooWide, ZeroDivisor, NotANumber, Memory}
use Rattle.fisca_num.specs.Rational.{Ratio, Reduces, IsTooWide}
use Rattle.fisca_num.specs.Number.{Number, ratio_of}

-- why a rational is no number
abbrev pub IsFaultOf : Ratio → NumFault → Type 0
IsFaultOf r TooWide = IsTooWide r
IsFaultOf r ZeroDivisor = r.denominator ≡ 0
IsFaultOf r NotANumber = ⊥
IsFaultOf r Memory = ⊥

-- the number is r in lowest terms, or r has none: it is too wide, or over 0
abbrev pub IsNumberOf : Ratio → Result Number NumFault → Type 0
IsNumberOf r (Ok v) = Reduces r (ratio_of v)
IsNumberOf r (Err e) = IsFaultOf r e
