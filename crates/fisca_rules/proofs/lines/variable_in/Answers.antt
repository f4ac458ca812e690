use Rattle.std.proofs.Common.{◌≡◌, ◌≢◌, ◌∙◌, sym, ap, subst, List, map, Result, Ok, Err}
use Rattle.fisca_ast.specs.ModuleViews.{item}
use Rattle.fisca_ast.specs.Modules.{Item}
use Rattle.fisca_ast.specs.declared.fault.FormulaKind.TheVariants.{Memory}
use Rattle.fisca_declarations.specs.VariableForms.{Written, both_written}
use Rattle.fisca_declarations.specs.Steps.VariableForms.{variable_of}
use Rattle.fisca_rules.specs.FirstPass.{told_at}
use Rattle.fisca_rules.specs.declared.build_fault.BuildFault.{BuildFault}
use Rattle.fisca_rules.specs.Build.{items_said}
use Rattle.fisca_rules.proofs.Fitting.{variable_said}
use Rattle.fisca_symbols.specs.declared.variable.Variable.{Variable}
use Rattle.fisca_rules.proofs.lines.variable_in.Goals as goal

pub returns-in-Ok : goal.returns-in-Ok
returns-in-Ok c =
    let place = c.args.place in
    let line = c.args.class.line in
    let name = c.args.class.name in
    let xs : List Item = map item c.args.class.items.items in
    let types = c.in_ok-types.types in
    let said = c.in_ok-types.said in
    let written : items_said c.args.declared.now place xs ≡ Ok (types, said) =
    subst (λ ls. items_said c.args.declared.now place (map item ls) ≡ Ok (types, said)) c.as_slice.ensures.value c.in_ok-types.ensures in
    let made : variable_of place line name types said xs ≡ Ok (both_written c.in-Ok.made) =
    subst (λ n. variable_of place line n types said xs ≡ Ok (both_written c.in-Ok.made)) (c.borrowed-named.ensures ∙ c.as_str.ensures) c.in-Ok.ensures in
    variable_said c.args.declared.now place line name xs types said written ∙ ap (λ r. told_at place line r) made

pub returns-in-Err : goal.returns-in-Err
returns-in-Err c = λ known.
    let place = c.args.place in
    let line = c.args.class.line in
    let name = c.args.class.name in
    let xs : List Item = map item c.args.class.items.items in
    let types = c.in_ok-types.types in
    let said = c.in_ok-types.said in
    let kind_known : c.in-Err.kind ≢ Memory = λ e. known (c.fault_at.ensures.kind ∙ e) in
    let written : items_said c.args.declared.now place xs ≡ Ok (types, said) =
    subst (λ ls. items_said c.args.declared.now place (map item ls) ≡ Ok (types, said)) c.as_slice.ensures.value c.in_ok-types.ensures in
    let refused : variable_of place line name types said xs ≡ Err c.in-Err.kind =
    subst (λ n. variable_of place line n types said xs ≡ Err c.in-Err.kind) (c.borrowed-named.ensures ∙ c.as_str.ensures) (c.in-Err.ensures kind_known) in
    variable_said c.args.declared.now place line name xs types said written
    ∙ ap (λ r. told_at place line r) refused
    ∙ ap (λ (fault : BuildFault). Err fault) (sym (c.fault_at.ensures.told kind_known))
