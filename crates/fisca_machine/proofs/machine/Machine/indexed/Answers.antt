use Rattle.std.proofs.Common.{sym}
use Rattle.fisca_machine.proofs.machine.Machine.indexed.Goals as goal

pub returns-in-Some-chosen_behind-clause-same : goal.returns-in-Some-chosen_behind-clause-same
returns-in-Some-chosen_behind-clause-same c =
    let day = c.in-Some-Day in
    rw (day.ensures, day.field-0-is, c.in-Member.is, c.in-Some.ensures, sym c.in-Some-chosen_behind.ensures) c.index.ensures.same

pub returns-in-Some-chosen_behind-clause-stop : goal.returns-in-Some-chosen_behind-clause-stop
returns-in-Some-chosen_behind-clause-stop c =
    let day = c.in-Some-Day in
    rw (day.ensures, day.field-0-is, c.in-Member.is, c.in-Some.ensures, sym c.in-Some-chosen_behind.ensures) c.index.ensures.stop
