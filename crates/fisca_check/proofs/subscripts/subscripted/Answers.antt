use Rattle.std.proofs.lemmas.Result.{err_from_is_err_and}
use Rattle.fisca_ir.specs.Views.{chosen, typed}
use Rattle.fisca_symbols.specs.Known.{tables}
use Rattle.fisca_check.proofs.Kept.{subscript_fault}
use Rattle.fisca_check.proofs.subscripts.subscripted.Goals as goal

pub returns-in_err-children-clause-thing : goal.returns-in_err-children-clause-thing
returns-in_err-children-clause-thing c =
    let told = err_from_is_err_and c.from_residual-in_err-children.result c.from_residual-in_err-children.ensures.1 in
    let known = tables c.args.tables.now in
    rw (told.1, told.2)
    (λ h. subscript_fault known (chosen c.args.chosen.now) (typed c.args.index) _ _ _ c.in_ok-choices.ensures c.in_ok-level.ensures (rw c.requires at (c.in_err-children.ensures.found h)))
