use Rattle.std.proofs.Common.{◌≡◌, drop}
use Rattle.std.specs.List.{list_any}
use Rattle.fisca_api.specs.Eternal.{is_overlap}
use Rattle.fisca_api.proofs.situation.Situation.overlaps.Given as goal

abbrev pub invariant-loop-given : goal.invariant-loop-given
invariant-loop-given l = list_any (is_overlap l.variable l.member l.period) l.self.given.items ≡ list_any (is_overlap l.variable l.member l.period) (drop l.given-index l.self.given.items)
