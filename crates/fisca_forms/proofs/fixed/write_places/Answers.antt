use Rattle.std.proofs.Common.{◌++◌, ◌∷◌, [], string_bytes, ap, ◌∙◌, arith, append_assoc}
use Rattle.fisca_forms.specs.Fixed.{places_of}
use Rattle.fisca_num.specs.Characters.{point}
use Rattle.fisca_forms.proofs.Digits.{next_digit, no_digit, point_first}
use Rattle.fisca_forms.proofs.fixed.write_places.Goals as goal

pub loop-left-preserved : goal.loop-left-preserved
loop-left-preserved c =
    (omega arith, next_digit c.args.rest c.loop-left.left _ _ _ (omega arith) c.in_ok-write_digit.ensures c.loop-left.invariant.1)

pub returns : goal.returns
returns c =
    no_digit c.args.rest c.loop-left.left _ _ (omega arith) c.loop-left.invariant.1
    ∙ (append_assoc (string_bytes c.args.line.now) (point ∷ []) (places_of c.args.places c.args.rest)
    ∙ ap (λ xs. string_bytes c.args.line.now ++ xs) (point_first c.args.rest c.args.places (omega arith)))
