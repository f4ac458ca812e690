use Rattle.fisca_bench.proofs.evaluation.of_tree.Goals as goal

pub of_situation-requires-clause-fit : goal.of_situation-requires-clause-fit
of_situation-requires-clause-fit g c = c.inputs_fit.ensures c.args.rules.now c.requires _ _ _ _ c.in-Ok.ensures
