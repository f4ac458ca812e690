use Rattle.std.proofs.Common.{not, rules, ap, sym, subst, ◌∙◌}
use Rattle.std.specs.Map.{lookup}
use Rattle.std.proofs.lemmas.Fn.{filter_same}
use Rattle.std.proofs.lemmas.Map.Made.{IsDistinct-keys_filter}
use Rattle.fisca_memo_theory.specs.Reads.{reads_wheel}
use Rattle.fisca_inputs.specs.Entries.{same_key}
use Rattle.fisca_inputs.specs.Places.{AreOnce}
use Rattle.fisca_evaluator.proofs.Finds.{left_of}
use Rattle.fisca_evaluator.proofs.list_recall.take_out.Goals as goal

pub returns-clause-filtered : goal.returns-clause-filtered
returns-clause-filtered c = filter_same _ (λ p. not (reads_wheel p.1.reads c.args.wheel)) _ (λ x b g call. search rules) _ _ c.retain.ensures.filtered

pub returns-clause-left : goal.returns-clause-left
returns-clause-left c k =
    ap (lookup (same_key k)) (returns-clause-filtered c) ∙ left_of (λ known. reads_wheel known.reads c.args.wheel) c.args.pairs.now.items c.requires.once k

pub returns-clause-once : goal.returns-clause-once
returns-clause-once c =
    subst AreOnce (sym (returns-clause-filtered c)) (IsDistinct-keys_filter same_key (λ p. not (reads_wheel p.1.reads c.args.wheel)) c.args.pairs.now.items c.requires.once)
