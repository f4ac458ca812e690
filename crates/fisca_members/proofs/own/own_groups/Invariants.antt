use Rattle.std.proofs.Common.{◌≡◌, drop}
use Rattle.fisca_members.specs.Steps.Groups.{own_from}
use Rattle.fisca_members.proofs.own.own_groups.Given as goal

abbrev pub invariant-loop-place : goal.invariant-loop-place
invariant-loop-place l = own_from l.first l.initial.groups 0 l.persons ≡ own_from l.first l.groups l.place (drop l.place l.persons)
