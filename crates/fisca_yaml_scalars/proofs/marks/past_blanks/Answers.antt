use Rattle.std.proofs.Common.{◌≡◌, ◌+◌, arith, ◌∙◌, refl, true, get_or, sym}
use Rattle.std.proofs.lemmas.Str.{IsCharBoundary-after_ascii, IsCharBoundary-start}
use Rattle.std.specs.Str.{IsCharBoundary}
use Rattle.fisca_yaml_scalars.specs.Steps.Rows.{is_blank}
use Rattle.fisca_yaml_scalars.proofs.Steps.{blanks_more, blank_ascii}
use Rattle.fisca_yaml_scalars.proofs.marks.past_blanks.Goals as goal

pub blanks-init : goal.blanks-init
blanks-init c = (omega arith, IsCharBoundary-start c.as_bytes-bytes.result.now c.as_bytes-bytes.ensures.utf8, refl)

pub blanks-preserved : goal.blanks-preserved
blanks-preserved c =
    let i = c.blanks.invariant in
    let bs = c.as_bytes-bytes.result.now in
    let n = c.blanks.skip in
    let blank : is_blank (get_or bs n 0) ≡ true = sym c.is_blank.ensures ∙ c.if-is_blank.true in
    let cut : IsCharBoundary bs (n + 1) = IsCharBoundary-after_ascii bs n c.as_bytes-bytes.ensures.utf8 (omega arith) (blank_ascii (get_or bs n 0) blank) in
    (omega arith, cut, i.2 ∙ blanks_more bs n (omega arith) blank)
