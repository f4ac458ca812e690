use Rattle.fisca_inputs.specs.Entries.{key}
use Rattle.fisca_situations.specs.Views.{slot}
use Rattle.fisca_api.specs.Marks.{wheels_at}
use Rattle.fisca_api.specs.Views.{situation}
use Rattle.fisca_api.proofs.Fitting.{moved_fits, moved_slot}
use Rattle.fisca_api.proofs.Moving.{slot_marked}
use Rattle.fisca_api.proofs.OfGiven.{moved_kept}
use Rattle.fisca_api.proofs.situation.Situation.axis.Goals as goal

pub returns-clause-numbers : goal.returns-clause-numbers
returns-clause-numbers c =
    let a = c.args in
    (moved_slot a.rules.now (situation a.self.now) a.wheel (key a.variable a.member a.period) (record { situation = situation c.put_axis.new.self; slot = slot c.in_ok-slot.slot })
    c.in_ok-slot.ensures.moved).0

pub returns-clause-fit : goal.returns-clause-fit
returns-clause-fit c =
    let a = c.args in
    λ safe fits. moved_fits a.rules.now safe (situation a.self.now) a.wheel (key a.variable a.member a.period) (record { situation = situation c.put_axis.new.self; slot = slot c.in_ok-slot.slot })
    fits c.in_ok-slot.ensures.moved

pub returns-clause-shared : goal.returns-clause-shared
returns-clause-shared c =
    let a = c.args in
    λ period is. moved_kept a.rules.now.tables (situation a.self.now) a.wheel (key a.variable a.member a.period) (record { situation = situation c.put_axis.new.self; slot = slot c.in_ok-slot.slot })
    is period c.in_ok-slot.ensures.moved

pub returns-clause-marked : goal.returns-clause-marked
returns-clause-marked c =
    let a = c.args in
    let is = moved_slot a.rules.now (situation a.self.now) a.wheel (key a.variable a.member a.period) (record { situation = situation c.put_axis.new.self; slot = slot c.in_ok-slot.slot })
    c.in_ok-slot.ensures.moved in
    let are = rw c.as_slice.ensures.value at c.in_ok-wheels.ensures in
    (is.1, slot_marked (λ k. wheels_at c.in_ok-wheels.wheels.items k.variable) (wheels_at a.self.now.wheels.items) a.variable a.wheel (slot c.in_ok-slot.slot) (λ k. are k.variable) is.1 is.2)
