use Rattle.std.proofs.Common.{◌≡◌, map, rules}
use Rattle.std.proofs.lemmas.Result.{err_from_is_err_and}
use Rattle.fisca_rules.specs.FirstPass.{placed_from}
use Rattle.fisca_ast.specs.ModuleViews.{statements}
use Rattle.fisca_rules.specs.Steps.Build.{declared_in}
use Rattle.std.specs.Prelude.{Err}
use Rattle.fisca_rules.proofs.Walk.{declared_same, declared_whole}
use Rattle.fisca_rules.proofs.tables.tables_found.Goals as goal

-- memory ran out
pub returns-in_err-named : goal.returns-in_err-named
returns-in_err-named c =
    let p = err_from_is_err_and c.from_residual-in_err-named.result c.from_residual-in_err-named.ensures.1 in rw p.1 (λ h. absurd (h p.2))

pub returns-in_err-entities : goal.returns-in_err-entities
returns-in_err-entities c =
    let ps = placed_from 0 (map statements c.args.modules.items) in
    let told = err_from_is_err_and c.from_residual-in_err-entities.result c.from_residual-in_err-entities.ensures.1 in
    let same : c.in_ok-declared.declared ≡ declared_in ps = search rules in
    rw (told.1, told.2) (λ h. declared_same c.in_ok-declared.declared ps (Err _) same (c.in_err-entities.ensures h))

pub returns : goal.returns
returns c =
    let ps = placed_from 0 (map statements c.args.modules.items) in
    let same : c.in_ok-declared.declared ≡ declared_in ps = search rules in
    declared_whole c.in_ok-declared.declared ps _ _ _ same c.in_ok-entities.ensures c.in_ok-found.ensures c.in_ok-named.ensures
