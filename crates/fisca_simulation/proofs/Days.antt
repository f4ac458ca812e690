-- Parameters and scales on the day on which the period starts that moves lead to.
use Rattle.std.proofs.Common.{rules, ◌≡◌, ◌∙◌, List, ap, sym, slice_get}
use Rattle.fisca_ir.specs.Views.{indices}
use Rattle.fisca_ir.specs.declared.node.Parameter.{Parameter, out-Parameter, the_lemmas}
use Rattle.fisca_ir.specs.declared.node.ScaleSum.{ScaleSum}
use Rattle.fisca_machine.specs.Context.{tables}
use Rattle.fisca_machine.specs.Running.{parametric}
use Rattle.fisca_machine.specs.declared.pending.At.{At}
use Rattle.fisca_time.specs.Instant.{CivilDate}
use Rattle.fisca_typing.specs.declared.moves.Move.{Move}
use Rattle.fisca_simulation.specs.Followers.{chooses, tells}
use Rattle.fisca_simulation.specs.NotedFormulas.{at_start, parameter_at, scale_at}
use Rattle.fisca_simulation.specs.Noted.{Noted, behind}
use Rattle.fisca_simulation.specs.declared.follower.Follower.{Follower}

seen : (p : Parameter) → parametric p ≡ record { indices = indices (out-Parameter p).indices.items; places = (out-Parameter p).places.value.items; moves = (out-Parameter p).moves.items }
seen p = search (the_lemmas, rules)

-- a parameter on a day
abbrev pub parameter_on : {A : Type 0} → Follower A → Parameter → At → CivilDate → Noted
parameter_on s x at day = chooses s (parametric x).indices 0 at (λ i. parameter_at (tables s.context) (slice_get (parametric x).places i) day)

pub parameter_begins : {A : Type 0} (s : Follower A) (x : Parameter) (at : At) (ms : List Move) → ms ≡ (out-Parameter x).moves.items
    → at_start (parametric x).moves s.frame.period (parameter_on s x at) ≡ at_start ms s.frame.period (parameter_on s x at)
parameter_begins s x at ms e = ap (λ ns. at_start ns s.frame.period (parameter_on s x at)) (ap (λ q. q.moves) (seen x) ∙ sym e)

-- a scale on a day
abbrev pub scale_on : {A : Type 0} → Follower A → ScaleSum → At → CivilDate → Noted
scale_on s x at day = behind (tells s x.base at) (scale_at (tables s.context) x.place day)

pub scale_begins : {A : Type 0} (s : Follower A) (x : ScaleSum) (at : At) (ms : List Move) → ms ≡ x.moves.items
    → at_start x.moves.items s.frame.period (scale_on s x at) ≡ at_start ms s.frame.period (scale_on s x at)
scale_begins s x at ms e = ap (λ ns. at_start ns s.frame.period (scale_on s x at)) (sym e)
