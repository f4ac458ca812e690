use Rattle.std.proofs.lemmas.Result.{err_from_is_err_and}
use Rattle.std.proofs.Common.{◌≡◌, Err, Ok, map, subst}
use Rattle.fisca_declarations.specs.VariableForms.{written}
use Rattle.fisca_rules.specs.Steps.Rules.{all_formulas}
use Rattle.fisca_rules.specs.Views.{dated}
use Rattle.fisca_symbols.specs.Known.{tables as known}
use Rattle.fisca_ast.specs.ModuleViews.{statements}
use Rattle.fisca_symbols.specs.declared.tables.Tables.{Tables}
use Rattle.fisca_rules.proofs.BuiltTables.{built, formulas_fault, tables_fault}
use Rattle.fisca_rules.proofs.rule_set.RuleSet.build.Goals as goal

pub returns-in_err-entities : goal.returns-in_err-entities
returns-in_err-entities c =
    let told = err_from_is_err_and c.from_residual.result c.from_residual.ensures.1 in
    rw (told.1, told.2) (λ h. tables_fault c.args.parameters (map statements c.args.modules.items) _ (c.in_err-entities.ensures h))

pub returns-in_err-formulas : goal.returns-in_err-formulas
returns-in_err-formulas c =
    let told = err_from_is_err_and c.from_residual-in_err-formulas.result c.from_residual-in_err-formulas.ensures.1 in
    let tables : Tables = record { entities = c.in_ok-entities.entities; enums = c.in_ok-entities.enums; variables = c.in_ok-entities.variables; parameters = c.args.parameters } in
    rw (told.1, told.2) (λ h. formulas_fault (map statements c.args.modules.items) tables c.in_ok-entities.declarations.items _ c.in_ok-entities.ensures (subst (λ ds. all_formulas (known tables) c.in_ok-entities.variables (map written ds) ≡ Err c.in_err-formulas.field-0.0) c.as_slice.ensures.value (c.in_err-formulas.ensures h)))

pub returns : goal.returns
returns c =
    let tables : Tables = record { entities = c.in_ok-entities.entities; enums = c.in_ok-entities.enums; variables = c.in_ok-entities.variables; parameters = c.args.parameters } in
    built (map statements c.args.modules.items) tables c.in_ok-entities.declarations.items _ c.in_ok-entities.ensures (subst (λ ds. all_formulas (known tables) c.in_ok-entities.variables (map written ds) ≡ Ok (map (λ gs. map dated gs.items.items) c.in_ok-formulas.formulas.items)) c.as_slice.ensures.value c.in_ok-formulas.ensures)
