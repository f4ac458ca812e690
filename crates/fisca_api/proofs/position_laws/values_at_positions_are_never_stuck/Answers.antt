use Rattle.fisca_grid_run.proofs.Fitting.{ready_at}
use Rattle.fisca_grid_run.specs.Runs.{simulation_in}
use Rattle.fisca_api.proofs.position_laws.values_at_positions_are_never_stuck.Goals as goal

pub returns-clause-ready : goal.returns-clause-ready
returns-clause-ready c = ready_at

pub returns-clause-answers : goal.returns-clause-answers
returns-clause-answers c rules n f asked position moved s at is =
    let ready = ready_at rules n f asked position moved s at is in
    c.no_operand_is_of_a_wrong_type.ensures (simulation_in rules f s) ready.safe ready.fit

pub returns-clause-told : goal.returns-clause-told
returns-clause-told c rules n f asked position moved s at is =
    c.answers_are_told.ensures.fault (simulation_in rules f s) (ready_at rules n f asked position moved s at is)
