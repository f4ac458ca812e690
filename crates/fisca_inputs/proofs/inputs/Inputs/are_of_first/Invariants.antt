use Rattle.std.proofs.Common.{◌≡◌, ◌==◌, drop}
use Rattle.std.specs.List.{list_all}
use Rattle.fisca_inputs.proofs.inputs.Inputs.are_of_first.Given as goal

abbrev pub invariant-loop-entry : goal.invariant-loop-entry
invariant-loop-entry l = list_all (λ e. e.0.member == 0) l.entries ≡ list_all (λ e. e.0.member == 0) (drop l.entry-index l.entries)
