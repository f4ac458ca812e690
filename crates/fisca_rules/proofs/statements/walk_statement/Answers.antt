use Rattle.std.proofs.Common.{subst}
use Rattle.fisca_rules.specs.Seen.{TellsOne}
use Rattle.fisca_ast.specs.ModuleViews.{statement}
use Rattle.fisca_rules.proofs.Walk.{one_on}
use Rattle.fisca_rules.proofs.statements.walk_statement.Goals as goal

pub returns : goal.returns
returns c names whole left r =
    let here = statement c.args.statement in
    one_on c.args.declared.now c.args.seen.now c.second_name.new.self c.args.found c.found_behind.result names whole c.args.place here left r
    (subst (λ o. TellsOne c.args.seen.now c.second_name.new.self here o) c.in_default.is c.in_ok-line.ensures) c.found_behind.ensures
