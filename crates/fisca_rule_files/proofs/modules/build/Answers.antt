use Rattle.std.proofs.Common.{◌≢◌, map, rules, subst}
use Rattle.fisca_ast.specs.ModuleViews.{statements}
use Rattle.fisca_ast.specs.declared.fault.FormulaKind.TheVariants.{Memory}
use Rattle.fisca_rule_files.specs.Modules.{IsFaultOf}
use Rattle.fisca_rule_files.proofs.Telling.{built_told}
use Rattle.fisca_rule_files.proofs.modules.build.Goals as goal

pub returns-in-Err-2 : goal.returns-in-Err-2
returns-in-Err-2 c =
    let fault = c.in-Err.fault in
    let known : fault.kind ≢ Memory = search rules in
    built_told c.args.parameters (map (λ f. f.now) c.args.files.now) (map statements c.in_ok-modules.modules.items) fault c.refuse.result c.in_ok-modules.ensures (c.in-Err.ensures known)
    (subst (λ path. IsFaultOf (path, record { line = fault.line; kind = fault.kind }) c.refuse.result) c.path_at.ensures c.refuse.ensures)
