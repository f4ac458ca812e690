use Rattle.std.proofs.Common.{◌≡◌, ◌∙◌, ap, sym, to_z, of_z, w64, arith, rules}
use Rattle.std.proofs.lemmas.Int.{ints}
use Rattle.std.specs.Fmt.{signed_decimal}
use Rattle.fisca_num.specs.Text.{text_of}
use Rattle.fisca_num.proofs.Written.{written_whole}
use Rattle.fisca_num.proofs.fractions.Fraction.write_text.Goals as goal

pub returns-then-denominator-eq1-clause-ok : goal.returns-then-denominator-eq1-clause-ok
returns-then-denominator-eq1-clause-ok c =
    let word : to_z w64 (of_z w64 c.numerator.result) ≡ c.numerator.result = omega (arith, ints) in
    let text : c.format.result.now ≡ text_of c.args.self =
    c.format.ensures.text ∙ ap signed_decimal (word ∙ c.numerator.ensures) ∙ written_whole c.args.self (sym c.denominator.ensures ∙ c.if-denominator-eq1.true) in
    rw (← text) (search rules)

pub returns-then-denominator-eq1-clause-full : goal.returns-then-denominator-eq1-clause-full
returns-then-denominator-eq1-clause-full c =
    let word : to_z w64 (of_z w64 c.numerator.result) ≡ c.numerator.result = omega (arith, ints) in
    let text : c.format.result.now ≡ text_of c.args.self =
    c.format.ensures.text ∙ ap signed_decimal (word ∙ c.numerator.ensures) ∙ written_whole c.args.self (sym c.denominator.ensures ∙ c.if-denominator-eq1.true) in
    rw (← text) (search rules)
