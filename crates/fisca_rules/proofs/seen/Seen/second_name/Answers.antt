use Rattle.std.proofs.Common.{None, sym, ap, subst}
use Rattle.fisca_rules.proofs.Clash.{entities_tell}
use Rattle.fisca_rules.specs.Seen.{TellsOne}
use Rattle.fisca_ast.specs.Modules.{Statement}
use Rattle.fisca_ast.specs.ModuleViews.{assigned, statement}
use Rattle.fisca_rules.proofs.seen.Seen.second_name.Goals as goal

pub returns-in-Entities : goal.returns-in-Entities
returns-in-Entities c =
    let seen = c.args.self.now in
    subst (λ (s : Statement). TellsOne seen seen s None) (sym (ap statement c.in-Entities.is)) (entities_tell seen (assigned c.in-Entities.field-0))
