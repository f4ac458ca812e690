use Rattle.std.proofs.Common.{◌≡◌, ap, ◌∙◌, Some, lit<, rules}
use Rattle.std.proofs.lemmas.Str.Pattern.{split_once_first}
use Rattle.fisca_yaml.specs.Views.{node}
use Rattle.fisca_params.specs.Answers.{cause_of}
use Rattle.fisca_params.specs.Causes.{Cause}
use Rattle.fisca_params.specs.Paths.{names_in}
use Rattle.fisca_num.specs.Results.{and_then}
use Rattle.fisca_params.specs.Tree.{Entered}
use Rattle.fisca_params.specs.Steps.Tree.{put_below}
use Rattle.fisca_params.proofs.PathTexts.{names_cut, none_if_not, put-cut}
use Rattle.fisca_params.proofs.build.put_below.Goals as goal

pub returns-in_err-folder : goal.returns-in_err-folder
returns-in_err-folder c =
    let n = node c.args.tree.now in
    let cut = rw c.in-Some.is at (names_cut c.loop-name.rest.now c.split_once.result (split_once_first 47 c.loop-name.rest.now c.split_once.result c.split_once.ensures.cases (lit< tt))) in
    let whole = c.loop-name.invariant.1
    ∙ ap (λ ns. put_below c.loop-name.nodes c.loop-name.folder ns n) cut.0
    ∙ put-cut c.loop-name.nodes c.loop-name.folder c.in-Some.name.now c.in-Some.below.now n in
    let refused = λ (cause : Cause) (told : cause_of c.in_err-folder.field-0.0 ≡ Some cause). whole ∙ ap (λ r. and_then r (λ (e : Entered). put_below e.tree e.place (names_in c.in-Some.below.now) n)) (c.in_err-folder.ensures.entered cause told) in
    search (rules, refused)

pub loop-name-preserved : goal.loop-name-preserved
loop-name-preserved c =
    let n = node c.args.tree.now in
    let cut = rw c.in-Some.is at (names_cut c.loop-name.rest.now c.split_once.result (split_once_first 47 c.loop-name.rest.now c.split_once.result c.split_once.ensures.cases (lit< tt))) in
    let whole = c.loop-name.invariant.1
    ∙ ap (λ ns. put_below c.loop-name.nodes c.loop-name.folder ns n) cut.0
    ∙ put-cut c.loop-name.nodes c.loop-name.folder c.in-Some.name.now c.in-Some.below.now n in
    let on = whole ∙ ap (λ r. and_then r (λ (e : Entered). put_below e.tree e.place (names_in c.in-Some.below.now) n)) c.in_ok-folder.ensures.entered in
    (search rules, on, search rules)

pub returns : goal.returns
returns c =
    let n = node c.args.tree.now in
    let last = none_if_not c.split_once.result c.in_default.not-Some in
    let whole = rw last at (names_cut c.loop-name.rest.now c.split_once.result (split_once_first 47 c.loop-name.rest.now c.split_once.result c.split_once.ensures.cases (lit< tt))) in
    rw (c.loop-name.invariant.1 ∙ ap (λ ns. put_below c.loop-name.nodes c.loop-name.folder ns n) whole) c.put_file.ensures.put
