use Rattle.std.proofs.Common.{◌∙◌, ap, sym}
use Rattle.fisca_ir.specs.Views.{chosen, node, thing}
use Rattle.fisca_check_calls.specs.Parameters.{children, chosen_among}
use Rattle.fisca_check_calls.proofs.OneKind.{by_found, gives_same}
use Rattle.fisca_check_calls.proofs.parameters.chosen_below.Goals as goal

pub returns : goal.returns
returns c = λ ns ts h s.
    gives_same thing _ _ _ c.chosen_among.ensures
    (by_found ns (chosen c.args.chosen.now) c.args.level (node c.args.member) ts (children c.args.children.now) h
    ∙ ap (chosen_among (children c.args.children.now) (chosen c.args.chosen.now) c.args.level (node c.args.member)) (sym s))
