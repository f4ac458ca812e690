use Rattle.std.proofs.Common.{◌≡◌, [], ◌∷◌, ◌++◌, List, rules, subst}
use Rattle.std.proofs.lemmas.Result.{err_from_is_err_and}
use Rattle.std.specs.Prelude.{map}
use Rattle.std.specs.Vec.Iter.{into_iter_items}
use Rattle.fisca_rules.specs.FirstPass.{placed_in}
use Rattle.fisca_ast.specs.ModuleViews.{statement}
use Rattle.fisca_ast.specs.declared.module.Statement.{Statement}
use Rattle.fisca_rules.specs.Walk.{Reached}
use Rattle.fisca_rules.proofs.Walk.{none_left}
use Rattle.fisca_rules.proofs.statements.walk_module.Goals as goal

pub returns-in_err-behind : goal.returns-in_err-behind
returns-in_err-behind c names whole left r =
    let seen : into_iter_items c.loop-statement.statement-iterator ≡ c.in-Some.statement ∷ into_iter_items c.next.new.self = search rules in
    let told = err_from_is_err_and c.from_residual.result c.from_residual.ensures.1 in
    rw (told.1, told.2) (c.in_err-behind.ensures names whole (placed_in c.args.place (map statement (into_iter_items c.next.new.self)) ++ left)
    (subst (λ (ss : List Statement). Reached c.args.declared.now c.loop-statement.seen c.loop-statement.behind names whole (placed_in c.args.place (map statement ss) ++ left)) seen
    (c.loop-statement.invariant.0 names whole left r)))

pub returns : goal.returns
returns c names whole left r =
    let none : into_iter_items c.loop-statement.statement-iterator ≡ [] = none_left _ _ c.in-None.ensures.steps.0 c.loop-statement.invariant.1 in
    subst (λ (ss : List Statement). Reached c.args.declared.now c.loop-statement.seen c.loop-statement.behind names whole (placed_in c.args.place (map statement ss) ++ left)) none
    (c.loop-statement.invariant.0 names whole left r)
