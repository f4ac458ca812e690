use Rattle.std.proofs.Common.{refl}
use Rattle.fisca_api.specs.Situations.{Situation}
use Rattle.fisca_api.specs.Views.{situation}
use Rattle.fisca_api.proofs.Fitting.{neutral_fits}
use Rattle.fisca_api.proofs.Marking.{marked_too}
use Rattle.fisca_api.proofs.OfGiven.{neutral_kept}
use Rattle.fisca_api.proofs.situation.Situation.neutralize.Goals as goal

pub returns-clause-inputs : goal.returns-clause-inputs
returns-clause-inputs c = rw c.as_slice-2.ensures.value at c.neutralize.ensures.inputs

pub returns-clause-fit : goal.returns-clause-fit
returns-clause-fit c rules fits =
    let s = situation c.args.self.now in
    let left : Situation = record { given = s.given; shared = record { members = c.neutralize.new.self.members; inputs = c.neutralize.new.self.inputs }; neutral = c.in_ok-marks.marks.items } in
    neutral_fits rules c.in_ok-marks.marks.items s left fits refl (returns-clause-inputs c)

pub returns-clause-shared : goal.returns-clause-shared
returns-clause-shared c tables is =
    let s = situation c.args.self.now in
    let left : Situation = record { given = s.given; shared = record { members = c.neutralize.new.self.members; inputs = c.neutralize.new.self.inputs }; neutral = c.in_ok-marks.marks.items } in
    let more = rw c.as_slice.ensures.value at c.in_ok-marks.ensures in
    neutral_kept tables s left is (λ x h. marked_too _ _ _ (more x) h) refl c.neutralize.ensures.members (returns-clause-inputs c)
