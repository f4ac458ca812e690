use Rattle.std.proofs.Common.{◌∙◌, append-nil, refl, sym}
use Rattle.fisca_simulation.proofs.follower.Follower.add_up.Goals as goal

pub returns-then-has_no_parts : goal.returns-then-has_no_parts
returns-then-has_no_parts g c = rw (sym c.has_no_parts.ensures ∙ c.if-has_no_parts.true) (refl, sym (append-nil _))

pub sum-requires : goal.sum-requires
sum-requires g c = record { moving = rw (sym c.has_no_parts.ensures ∙ c.if-has_no_parts.false) at c.requires.moving }

pub returns : goal.returns
returns g c = rw (sym c.has_no_parts.ensures ∙ c.if-has_no_parts.false) c.sum.ensures
