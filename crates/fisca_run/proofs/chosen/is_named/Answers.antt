use Rattle.std.proofs.Common.{◌∙◌, ap, option_and_then}
use Rattle.std.proofs.lemmas.Str.Pattern.{contains_text}
use Rattle.fisca_run.proofs.NamedTests.{contained}
use Rattle.fisca_run.specs.Named.{name_has}
use Rattle.fisca_yaml.specs.Steps.Find.{as_text}
use Rattle.fisca_run.proofs.chosen.is_named.Goals as goal

pub returns-in-Some-as_text : goal.returns-in-Some-as_text
returns-in-Some-as_text c =
    let text = c.args.text.now in
    let name = c.in-Some-as_text.name.now in
    contained c.contains.result text name (contains_text c.contains.result text name c.contains.ensures.cases)
    ∙ ap (name_has text) (c.in-Some-as_text.ensures ∙ ap (option_and_then as_text) c.in-Some.ensures)
