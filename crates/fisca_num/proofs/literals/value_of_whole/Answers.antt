use Rattle.std.proofs.Common.{◌∙◌, sym, arith, refl, [], inl}
use Rattle.std.proofs.lemmas.Bool.{eqb-true, eqb-false}
use Rattle.fisca_num.specs.Number.{lowest-whole}
use Rattle.fisca_num.proofs.Forms.{AreParts, no_digit, too_wide, value_whole}
use Rattle.fisca_num.proofs.literals.value_of_whole.Goals as goal

pub from_lowest-requires : goal.from_lowest-requires
from_lowest-requires c = lowest-whole _

pub returns-then-is_empty : goal.returns-then-is_empty
returns-then-is_empty c = no_digit _ _ [] (eqb-true _ 0 (sym c.is_empty.ensures ∙ c.if-is_empty.true)) refl

pub returns-then-number-gt-LIMIT : goal.returns-then-number-gt-LIMIT
returns-then-number-gt-LIMIT c =
    let parts : AreParts c.args.whole.now [] = record { some = inl (eqb-false _ 0 (sym c.is_empty.ensures ∙ c.if-is_empty.false)); whole = c.requires.whole; places = refl } in
    too_wide _ _ _ parts (omega (arith, c.if-number-gt-LIMIT.true, c.requires.number))

pub returns-else-number-gt-LIMIT : goal.returns-else-number-gt-LIMIT
returns-else-number-gt-LIMIT c =
    let parts : AreParts c.args.whole.now [] = record { some = inl (eqb-false _ 0 (sym c.is_empty.ensures ∙ c.if-is_empty.false)); whole = c.requires.whole; places = refl } in
    (rw c.from.ensures at c.from_lowest.ensures) ∙ value_whole c.args.negative c.args.whole.now c.args.number parts c.requires.number (omega arith)
