use Rattle.fisca_inputs.specs.Steps.Sharing.{parts_by}
use Rattle.fisca_inputs.proofs.Filled.{all_there}
use Rattle.fisca_inputs.proofs.inputs.Inputs.dispatch.Goals as goal

pub returns-in_ok-note_parts-clause-runs : goal.returns-in_ok-note_parts-clause-runs
returns-in_ok-note_parts-clause-runs c = λ es kept all.
    let g = c.args.given.now in
    let there = all_there g.line g.value (parts_by c.args.unit g) c.args.self.now c.put_long.new.self c.in_ok-put_long.ensures in
    c.in_ok-note_parts.ensures es (λ i k at. kept k (there i k at)) all
