use Rattle.std.proofs.Common.{◌++◌, ◌∷◌, [], sym, ap₂, ◌∙◌, arith}
use Rattle.std.proofs.lemmas.List.FromFn.{map-range_with_len_more}
use Rattle.fisca_run_file.specs.Steps.Marks.{marks_of}
use Rattle.fisca_situations.specs.Views.{slot_list}
use Rattle.fisca_run_file.proofs.marks.wheels_of.Goals as goal

pub loop-variable-preserved : goal.loop-variable-preserved
loop-variable-preserved c =
    let i = c.loop-variable.variable in
    c.in_ok-push_marks.ensures
    ∙ (ap₂ (λ xs m. xs ++ m ∷ []) c.loop-variable.invariant c.marks_of.ensures ∙ sym (map-range_with_len_more (marks_of (slot_list c.args.slots.now)) 0 i i (omega arith)))
