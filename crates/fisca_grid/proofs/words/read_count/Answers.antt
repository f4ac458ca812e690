use Rattle.std.proofs.Common.{◌∙◌, sym}
use Rattle.fisca_grid.proofs.Counts.{count_is}
use Rattle.fisca_grid.proofs.words.read_count.Goals as goal

pub returns-then-are_digits : goal.returns-then-are_digits
returns-then-are_digits c =
    let bytes = c.as_bytes.ensures.value in
    let digits = sym c.are_digits.ensures ∙ c.if-are_digits.true in
    c.ok.ensures.value ∙ count_is c.args.text.now c.parse.result c.parse.ensures.value.0 (rw bytes at digits)
