use Rattle.std.proofs.Common.{◌∙◌, ap, sym}
use Rattle.fisca_time.specs.Period.{start_of}
use Rattle.fisca_simulation.specs.NotedFormulas.{in_range, on_start}
use Rattle.fisca_simulation.proofs.found.day_at.Goals as goal

pub returns-in-Err : goal.returns-in-Err
returns-in-Err c f = ap (λ r. in_range r (λ q. on_start (start_of q) f)) (sym c.in-Err.ensures)

pub returns-in-None : goal.returns-in-None
returns-in-None c f = ap (λ r. in_range r (λ q. on_start (start_of q) f)) (sym c.in-Ok.ensures) ∙ ap (λ o. on_start o f) (sym c.in-None.ensures)

pub returns-in-Some : goal.returns-in-Some
returns-in-Some c f = ap (λ r. in_range r (λ q. on_start (start_of q) f)) (sym c.in-Ok.ensures) ∙ ap (λ o. on_start o f) (sym c.in-Some.ensures)
