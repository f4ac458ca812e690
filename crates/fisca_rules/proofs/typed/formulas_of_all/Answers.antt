use Rattle.std.proofs.Common.{◌∙◌, ap, map, zip}
use Rattle.std.proofs.lemmas.List.{map-append}
use Rattle.std.proofs.lemmas.Result.{err_from_is_err_and}
use Rattle.std.proofs.lemmas.Slice.Zip.{Zip-more, either_empty_from_Zip}
use Rattle.std.specs.Iterator.Adapters.{zip_first, zip_second}
use Rattle.std.specs.Slice.Iter.{iter_rest}
use Rattle.fisca_rules.specs.Steps.Rules.{formulas_of}
use Rattle.fisca_rules.specs.Views.{dated}
use Rattle.fisca_rules.proofs.Each.{all_behind, behind_end, behind_fault, behind_next, next_pair, no_pair}
use Rattle.fisca_rules.proofs.typed.formulas_of_all.Goals as goal
use Rattle.fisca_symbols.specs.Known.{tables as known}
use Rattle.fisca_declarations.specs.VariableForms.{written}

pub returns-in_err-formulas_of : goal.returns-in_err-formulas_of
returns-in_err-formulas_of c =
    let l = c.loop-variable in
    let told = err_from_is_err_and c.from_residual-in_err-formulas_of.result c.from_residual-in_err-formulas_of.ensures.1 in
    let step = Zip-more l.variable-iterator c.next.new.self c.next.result _ c.in-Some.is c.next.ensures.steps in
    let cut = next_pair written _ _ _ _ _ _ step.0 step.1 in
    rw (told.1, told.2) (λ h. behind_fault (formulas_of (known c.args.tables.now)) (map (λ gs. map dated gs.items.items) l.made.items) _ _
    (zip c.args.tables.now.variables (map written c.args.declarations.now)) _ _ l.invariant.0 cut (c.in_err-formulas_of.ensures.formulas h))

pub loop-variable-preserved : goal.loop-variable-preserved
loop-variable-preserved c =
    let l = c.loop-variable in
    let make = formulas_of (known c.args.tables.now) in
    let step = Zip-more l.variable-iterator c.next.new.self c.next.result _ c.in-Some.is c.next.ensures.steps in
    let cut = next_pair written _ _ _ _ _ _ step.0 step.1 in
    let left = zip (iter_rest (zip_first c.next.new.self)) (map written (iter_rest (zip_second c.next.new.self))) in (
      ap (λ ds. all_behind make ds left) (ap (map (λ gs. map dated gs.items.items)) c.in_ok-push.ensures.items ∙ map-append (λ gs. map dated gs.items.items) l.made.items _)
          ∙ behind_next make (map (λ gs. map dated gs.items.items) l.made.items) _ _ (zip c.args.tables.now.variables (map written c.args.declarations.now)) _ _ l.invariant.0 cut c.in_ok-formulas_of.ensures.formulas,
      c.in_ok-formulas_of.ensures.same ∙ l.invariant.1,
    )

pub returns : goal.returns
returns c =
    let l = c.loop-variable in
    let none = either_empty_from_Zip l.variable-iterator c.next.new.self c.next.result c.in-None.is c.next.ensures.steps in
    behind_end (formulas_of (known c.args.tables.now)) (map (λ gs. map dated gs.items.items) l.made.items) _
    (zip c.args.tables.now.variables (map written c.args.declarations.now)) l.invariant.0
    (no_pair written (iter_rest (zip_first l.variable-iterator)) (iter_rest (zip_second l.variable-iterator)) none)
