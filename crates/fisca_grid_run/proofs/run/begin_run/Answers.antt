use Rattle.std.proofs.Common.{◌∙◌, Ok, length, ap, ap₂, sym, subst}
use Rattle.std.proofs.lemmas.Result.{err_from_is_err_and}
use Rattle.fisca_situations.specs.Situations.{Situation}
use Rattle.fisca_situations.specs.Steps.Views.{situation}
use Rattle.fisca_run_file.specs.Steps.Marks.{wheels_of}
use Rattle.fisca_run_file.specs.Positions.{IsBeginning}
use Rattle.fisca_run_file.specs.Steps.Slots.{slots_of}
use Rattle.fisca_run_file.specs.Views.{file_with, run_file, run_start}
use Rattle.fisca_yaml.specs.Views.{node}
use Rattle.fisca_grid_run.proofs.Ranged.{names_refused}
use Rattle.fisca_grid_run.proofs.run.begin_run.Goals as goal

pub returns-in-Ok-clause-says : goal.returns-in-Ok-clause-says
returns-in-Ok-clause-says c =
    let same = ap₂ (λ (s : Situation) r. file_with s.members r) c.in-Ok.ensures.situation c.in-Ok.ensures.request in
    (node c.in_ok-tree.tree, c.in_ok-tree.ensures.ok, c.in_ok-run.ensures.ok ∙ ap Ok (sym same))

pub returns-in-Ok-clause-begins : goal.returns-in-Ok-clause-begins
returns-in-Ok-clause-begins c =
    let same = sym (ap₂ (λ (s : Situation) r. file_with s.members r) c.in-Ok.ensures.situation c.in-Ok.ensures.request) in
    let tables = c.args.rules.now.tables in
    record {
      situation = subst (λ s. IsBeginning tables (run_start c.in-Ok.begun) s) (sym c.in-Ok.ensures.situation)
          (subst (λ f. IsBeginning tables f (situation c.in_ok-run.run'.situation)) same c.in_ok-run.ensures.begins);
      slots = c.in-Ok.ensures.slots ∙ ap (slots_of tables) same;
      wheels = c.in-Ok.ensures.wheels ∙ ap (λ f. wheels_of (length tables.variables) (slots_of tables f)) same;
    }

pub returns-in-Ok-clause-names : goal.returns-in-Ok-clause-names
returns-in-Ok-clause-names c = (node c.in_ok-tree.tree, c.in_ok-tree.ensures.ok, c.in_ok-names.ensures.ok)

pub returns-in_err-names-clause-err : goal.returns-in_err-names-clause-err
returns-in_err-names-clause-err c =
    let told = err_from_is_err_and c.from_residual-in_err-names.result c.from_residual-in_err-names.ensures.1 in
    rw (told.1, told.2) (names_refused c.args.rules.now c.args.text.now (node c.in_ok-tree.tree) (run_file c.in_ok-run.run') c.in_err-names.field-0.0
    c.in_ok-tree.ensures.ok c.in_ok-run.ensures.ok c.in_err-names.ensures.err)
