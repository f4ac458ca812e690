use Rattle.std.proofs.Common.{◌≡◌, to_z, of_z, w64, arith, ◌∙◌, sym, ap}
use Rattle.std.proofs.lemmas.Int.{ints}
use Rattle.fisca_num.specs.Operations.{number_of}
use Rattle.fisca_grid.proofs.Steps.{step_on_line}
use Rattle.fisca_grid.proofs.axes.Axis.value.Goals as goal

pub returns : goal.returns
returns c =
    let axis = c.args.self.now in
    let numerator : to_z w64 (of_z w64 c.numerator_at.result) ≡ c.numerator_at.result = omega (arith, ints) in
    let answer = rw numerator at c.fraction.ensures in
    sym (step_on_line axis.spec axis.first axis.increment axis.denominator axis.line c.args.place)
    ∙ ap (λ n. number_of (record { numerator = n; denominator = axis.denominator })) (sym c.numerator_at.ensures.value) ∙ answer
