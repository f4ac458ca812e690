-- The steps of code behind `Cuts`:
-- Values of axes for a type of values: those of whole numbers are cut towards zero.
use Rattle.fisca_num.specs.Number.{Number, trunc_of, whole_number}
use Rattle.fisca_symbols.specs.declared.variable.DeclaredType.{DeclaredType}
use Rattle.fisca_symbols.specs.declared.variable.DeclaredType.TheVariants as type
use Rattle.fisca_situations.specs.Cuts.{size_whole}

-- the number cut towards zero
abbrev pub whole_part : Number → Number
whole_part v = whole_number (trunc_of v) (size_whole v)

-- whole numbers are cut towards zero
abbrev pub cut_for : DeclaredType → Number → Number
cut_for type.Int v = whole_part v
cut_for _ v = v
