use Rattle.std.proofs.Common.{◌≡◌, [], ◌∷◌, suc, List, add-one, ap, arith, length, rules, subst, sym}
use Rattle.std.proofs.lemmas.Result.{err_from_is_err_and}
use Rattle.std.specs.Prelude.{map}
use Rattle.std.specs.Vec.Iter.{into_iter_items}
use Rattle.fisca_rules.specs.FirstPass.{names_from, placed_from}
use Rattle.fisca_ast.specs.ModuleViews.{statements}
use Rattle.fisca_ast.specs.declared.module.Module.{Module}
use Rattle.fisca_rules.specs.Build.{none_yet}
use Rattle.fisca_rules.specs.Steps.Build.{found_from}
use Rattle.fisca_rules.specs.Walk.{Reached}
use Rattle.fisca_rules.proofs.statements.walk_modules.Goals as goal

pub returns-in_err-found : goal.returns-in_err-found
returns-in_err-found c =
    let all = placed_from 0 (map statements c.args.modules.items) in
    let rest = map statements (into_iter_items c.next.new.self) in
    let seen : into_iter_items c.loop-module.module-iterator ≡ c.in-Some.module ∷ into_iter_items c.next.new.self = search rules in
    let told = err_from_is_err_and c.from_residual.result c.from_residual.ensures.1 in
    rw (told.1, told.2) (c.in_err-found.ensures (names_from [] all) (found_from c.args.declared.now none_yet all) (placed_from (suc c.loop-module.place) rest)
    (subst (λ (ms : List Module). Reached c.args.declared.now c.loop-module.seen c.loop-module.found (names_from [] all) (found_from c.args.declared.now none_yet all) (placed_from c.loop-module.place (map statements ms)))
    seen c.loop-module.invariant.0))

pub loop-module-preserved : goal.loop-module-preserved
loop-module-preserved c =
    let all = placed_from 0 (map statements c.args.modules.items) in
    let rest = map statements (into_iter_items c.next.new.self) in
    let seen : into_iter_items c.loop-module.module-iterator ≡ c.in-Some.module ∷ into_iter_items c.next.new.self = search rules in (
      subst (λ k. Reached c.args.declared.now c.walk_module.new.seen c.in_ok-found.found (names_from [] all) (found_from c.args.declared.now none_yet all) (placed_from k rest)) (sym (add-one c.loop-module.place))
          (c.in_ok-found.ensures (names_from [] all) (found_from c.args.declared.now none_yet all) (placed_from (suc c.loop-module.place) rest)
          (subst (λ (ms : List Module). Reached c.args.declared.now c.loop-module.seen c.loop-module.found (names_from [] all) (found_from c.args.declared.now none_yet all) (placed_from c.loop-module.place (map statements ms)))
          seen c.loop-module.invariant.0)),
      omega (arith, ap length seen, c.in-Some.ensures.steps.1, c.loop-module.invariant.1),
      omega (arith, ap length seen, c.loop-module.invariant.2),
    )
