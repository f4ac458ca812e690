use Rattle.std.proofs.Common.{◌≡◌, drop}
use Rattle.fisca_yaml.specs.Views.{items_view}
use Rattle.fisca_members.specs.Steps.Groups.{names_given}
use Rattle.fisca_members.specs.Views.{post}
use Rattle.fisca_members.proofs.holders.names_given.Given as goal

abbrev pub invariant-loop-count : goal.invariant-loop-count
invariant-loop-count l =
    names_given l.persons (post l.post) 0 l.initial.homes (items_view l.items) ≡ names_given l.persons (post l.post) l.count l.homes (items_view (drop l.count l.items))
