use Rattle.std.proofs.Common.{◌+◌, arith, ◌∙◌, refl}
use Rattle.std.proofs.lemmas.Str.{IsCharBoundary-after_ascii, IsCharBoundary-start}
use Rattle.std.specs.Str.{IsCharBoundary}
use Rattle.fisca_yaml_scalars.proofs.Steps.{spaces_more}
use Rattle.fisca_yaml_scalars.proofs.line.Line.indented.Goals as goal

pub spaces-init : goal.spaces-init
spaces-init c = (omega arith, IsCharBoundary-start c.as_bytes-bytes.result.now c.as_bytes-bytes.ensures.utf8, refl)

pub spaces-preserved : goal.spaces-preserved
spaces-preserved c =
    let i = c.spaces.invariant in
    let bs = c.as_bytes-bytes.result.now in
    let cut : IsCharBoundary bs (c.spaces.skip + 1) = IsCharBoundary-after_ascii bs c.spaces.skip c.as_bytes-bytes.ensures.utf8 (omega arith) (omega arith) in
    (omega arith, cut, i.2 ∙ spaces_more c.args.number bs c.spaces.skip (omega arith) c.if-bytes-skip-eq32.true)
