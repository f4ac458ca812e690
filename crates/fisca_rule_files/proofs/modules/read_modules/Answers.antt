use Rattle.std.proofs.Common.{arith, ◌∙◌, sym, ap, suc, ◌<◌, ◌≤◌, ◌∷◌, map, drop, drop-cons, length}
use Rattle.std.proofs.Math.ListN.{drop_of_length-le}
use Rattle.std.proofs.lemmas.Result.{err_from_is_err_and}
use Rattle.fisca_rules.proofs.Each.{behind_end, behind_fault}
use Rattle.fisca_ast.specs.ModuleViews.{statements}
use Rattle.fisca_rule_files.specs.Modules.{declared_in, declared_by}
use Rattle.fisca_rule_files.proofs.FirstModule.{first_told}
use Rattle.fisca_rule_files.proofs.modules.read_modules.Goals as goal

pub returns-in_err-read_file : goal.returns-in_err-read_file
returns-in_err-read_file c =
    let l = c.loop-file in
    let items = c.args.files.now in
    let told = err_from_is_err_and c.from_residual.result c.from_residual.ensures.1 in
    let inside : l.file-index < length items = omega (arith, c.loop-file-test.true, l.auto.file-index-end) in
    let cut = drop-cons items l.file-index c.file-item.result inside ∙ ap (λ a. a ∷ drop (suc l.file-index) items) (sym c.file-item.is) in
    rw (told.1, told.2) (first_told (declared_in c.file-item.result.now) (declared_by (map (λ f. f.now) items)) _ c.in_err-read_file.ensures
    (λ fault e. behind_fault declared_in (map statements l.modules.items) (map (λ f. f.now) (drop l.file-index items)) (map (λ f. f.now) (drop (suc l.file-index) items)) (map (λ f. f.now) items) c.file-item.result.now fault l.invariant (ap (λ fs. map (λ f. f.now) fs) cut) e))

pub returns : goal.returns
returns c =
    let l = c.loop-file in
    let items = c.args.files.now in
    let all : length items ≤ l.file-index = omega (arith, c.loop-file-test.false, l.auto.file-index-end) in
    behind_end declared_in (map statements l.modules.items) (map (λ f. f.now) (drop l.file-index items)) (map (λ f. f.now) items) l.invariant (ap (λ fs. map (λ f. f.now) fs) (drop_of_length-le items all))
