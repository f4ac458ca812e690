use Rattle.std.proofs.Common.{sym, ap, ◌∙◌}
use Rattle.fisca_groups.specs.Lookup.{holders_from}
use Rattle.fisca_members.specs.Owned.{kind_in}
use Rattle.fisca_members.proofs.Retold.{holders_in}
use Rattle.fisca_members.proofs.kind.Kind.persons.Goals as goal

pub returns-in-Own : goal.returns-in-Own
returns-in-Own c =
    holders_in c.in-Own.field-0 c.args.group c.args.owners.now.homes _ c.persons-in-Own.ensures
    ∙ ap (λ k. holders_from c.args.group 0 (kind_in c.args.owners.now k).homes) (sym c.in-Own.is)
