use Rattle.std.proofs.Common.{◌∷◌, ap₂, sym, ◌∙◌, arith}
use Rattle.std.specs.Str.Lines.{lines}
use Rattle.fisca_yaml_scalars.proofs.Splits.{first, only_line}
use Rattle.fisca_yaml_scalars.proofs.split.first_line.Goals as goal

pub returns-in_default-clause-lines : goal.returns-in_default-clause-lines
returns-in_default-clause-lines c = only_line c.args.text.now c.requires (grind arith)

pub returns-clause-lines : goal.returns-clause-lines
returns-clause-lines c =
    let w = c.args.text.now in
    let n = c.in-Some.end in
    first w n (grind arith) (grind arith) (grind arith) ∙ ap₂ (λ a b. a ∷ lines b) (grind arith) (sym c.around.ensures.back)
