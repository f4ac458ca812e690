use Rattle.std.proofs.Common.{◌∙◌, sym}
use Rattle.fisca_columns.proofs.Numerals.{none_so_large}
use Rattle.fisca_columns.proofs.place.place_in.Goals as goal

pub returns-in_default-2 : goal.returns-in_default-2
returns-in_default-2 c =
    let bytes = c.as_bytes.ensures.value in
    let digits = sym c.are_digits.ensures ∙ c.if-not-are_digits.false in
    none_so_large c.args.count c.args.text.now c.in_default.field-0 c.ranges.count.fits (rw bytes at digits) c.in_default.ensures.value.0
