use Rattle.std.proofs.Common.{not, rules}
use Rattle.std.proofs.lemmas.Fn.{filter_same}
use Rattle.fisca_inputs.specs.Steps.Inputs.{is_marked}
use Rattle.fisca_inputs.proofs.table.leave_unmarked.Goals as goal

pub returns : goal.returns
returns c = filter_same _ (λ e. not (is_marked c.args.marks.now e.0.variable)) _ (λ x b g call. search rules) _ _ c.retain.ensures.filtered
