use Rattle.std.proofs.Common.{◌≡◌, ◌+◌, ◌-◌, ◌*◌, ◌∷◌, length, map}
use Rattle.fisca_key_semantics.specs.Answers.{outcome, value_within}
use Rattle.fisca_key_semantics.specs.Chains.{asked}
use Rattle.fisca_key_semantics.specs.Inquiry.{of_key}
use Rattle.fisca_key_semantics.specs.Stacks.{left_below}
use Rattle.fisca_model.specs.Seen.{key_seen}
use Rattle.fisca_inputs.specs.Typed.{IsValueOf}
use Rattle.fisca_machine.specs.Running.{rest, resume, waiting}
use Rattle.fisca_simulation.specs.Sound.{GivesOnly}
use Rattle.fisca_simulation.specs.PlainEvaluations.{known_in, sources_in, work}
use Rattle.fisca_simulation.proofs.work.+value.Given as goal

abbrev pub decreases-value_below : goal.decreases-value_below
decreases-value_below l = 3 * (101 - length l.keys.now.items) + 2

abbrev pub decreases-by_formula : goal.decreases-by_formula
decreases-by_formula l = 3 * (101 - length l.keys.now.items) + 1

abbrev pub decreases-work_out : goal.decreases-work_out
decreases-work_out l = 3 * (101 - length l.keys.now.items) + 3

-- what is left to do ends as the whole does
abbrev pub invariant-work_out-loop-value : goal.invariant-work_out-loop-value
invariant-work_out-loop-value l =
    let W = value_within (sources_in l.evaluation) (left_below (map key_seen l.fn.keys.items)) in
    let left = resume l.evaluation.context l.machine l.control in
    record {
      ends_so : outcome W (of_key (key_seen l.key) (work l.evaluation l.variable l.formula l.key)) ≡ outcome W (of_key (key_seen l.key) left);
      sound : GivesOnly (known_in l.evaluation) (IsValueOf (known_in l.evaluation) l.key.variable) left;
      waits : waiting l.evaluation.context l.machine ≡ rest l.evaluation.context l.fn.machine ∷ waiting l.evaluation.context l.fn.machine;
      keys : l.keys.items ≡ l.fn.keys.items;
    }

-- the questions that are left
abbrev pub decreases-work_out-loop-value : goal.decreases-work_out-loop-value
decreases-work_out-loop-value l =
    let W = value_within (sources_in l.evaluation) (left_below (map key_seen l.fn.keys.items)) in
    length (asked W (of_key (key_seen l.key) (resume l.evaluation.context l.machine l.control)))
