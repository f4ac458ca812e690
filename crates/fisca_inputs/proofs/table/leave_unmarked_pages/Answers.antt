use Rattle.std.proofs.Common.{not, rules}
use Rattle.indexmap.proofs.CallerLemmas.{filter-RetainsPairs}
use Rattle.fisca_inputs.specs.Steps.Inputs.{is_marked}
use Rattle.fisca_inputs.proofs.table.leave_unmarked_pages.Goals as goal

pub returns : goal.returns
returns c = filter-RetainsPairs _ (λ r. not (is_marked c.args.marks.now r.0.variable)) _ (λ k v b w g call. search rules) _ _ c.retain.ensures.filtered
