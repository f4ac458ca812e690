use Rattle.std.proofs.Common.{◌≡◌, ◌+◌, arith, ◌∙◌, refl, true, get_or}
use Rattle.std.proofs.lemmas.Str.{IsCharBoundary-after_ascii, IsCharBoundary-start}
use Rattle.std.specs.Str.{IsCharBoundary}
use Rattle.fisca_yaml.specs.Steps.Grouping.{is_sign}
use Rattle.fisca_yaml.proofs.Steps.{header_more, sign_ascii}
use Rattle.fisca_yaml.proofs.value.is_header.Goals as goal

pub signs-init : goal.signs-init
signs-init c = (omega arith, IsCharBoundary-start c.as_bytes-bytes.result.now c.as_bytes-bytes.ensures.utf8, refl)

pub signs-preserved : goal.signs-preserved
signs-preserved c =
    let i = c.signs.invariant in
    let bs = c.as_bytes-bytes.result.now in
    let n = c.signs.at in
    let sign : is_sign (get_or bs n 0) ≡ true = grind arith in
    let cut : IsCharBoundary bs (n + 1) = IsCharBoundary-after_ascii bs n c.as_bytes-bytes.ensures.utf8 (omega arith) (sign_ascii (get_or bs n 0) sign) in
    (omega arith, cut, i.2 ∙ header_more bs n (omega arith) sign)
