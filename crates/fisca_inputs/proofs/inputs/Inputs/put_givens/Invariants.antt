use Rattle.std.proofs.Common.{◌≡◌, map}
use Rattle.fisca_inputs.specs.Rules.{rule_of}
use Rattle.fisca_inputs.specs.Sharing.{all_shared}
use Rattle.fisca_inputs.specs.Steps.Runs.{AreFilled}
use Rattle.fisca_inputs.proofs.inputs.Inputs.put_givens.Given as goal

-- what is left, put into what there is, gives the whole, and what is noted has values
abbrev pub invariant-loop-rank : goal.invariant-loop-rank
invariant-loop-rank l = record {
  whole : all_shared (map rule_of l.variables) (map (λ e. e.1.now) l._rank-iterator) l.self ≡ all_shared (map rule_of l.fn.variables) (map (λ e. e.1.now) l.fn.givens.entries) l.fn.self;
  runs : AreFilled l.self l.runs.entries;
}
