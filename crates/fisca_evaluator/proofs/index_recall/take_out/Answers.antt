use Rattle.std.proofs.Common.{not, rules, ap, ◌∙◌}
use Rattle.std.specs.Map.{lookup}
use Rattle.indexmap.proofs.CallerLemmas.{filter-RetainsPairs}
use Rattle.fisca_memo_theory.specs.Reads.{reads_wheel}
use Rattle.fisca_inputs.specs.Entries.{same_key}
use Rattle.fisca_evaluator.proofs.Finds.{left_of}
use Rattle.fisca_evaluator.proofs.index_recall.take_out.Goals as goal

pub returns-clause-filtered : goal.returns-clause-filtered
returns-clause-filtered c = filter-RetainsPairs _ (λ e. not (reads_wheel e.1.known.reads c.args.wheel)) _ (λ k v b w g call. search rules) _ _ c.retain.ensures.filtered

pub returns-clause-left : goal.returns-clause-left
returns-clause-left c k =
    ap (lookup (same_key k)) (returns-clause-filtered c) ∙ left_of (λ s. reads_wheel s.known.reads c.args.wheel) c.args.entries.now.entries c.len-count.ensures.unique k
