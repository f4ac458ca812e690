use Rattle.std.proofs.Common.{◌∙◌, [], ap, map, codes, unwrap_or}
use Rattle.clap.proofs.WalkLemmas.{raw_values-rows}
use Rattle.clap.specs.Matches.{found_of}
use Rattle.fisca_command_line.proofs.Matches.{texts_or}
use Rattle.fisca_command_line.proofs.task.tests_task.Goals as goal

pub returns : goal.returns
returns c =
    let found = found_of c.args.matches.now in (
      c.in_ok-folders.ensures,
      c.in_ok-copies.ensures ∙ (ap (λ texts. map (λ t. t.now) texts.now) c.unwrap_or.ensures ∙ (texts_or c.get_strs.result _ ∙ ap (λ texts. unwrap_or texts []) (c.get_strs.ensures ∙ raw_values-rows found (codes "TESTS")))),
      c.text_in.ensures,
    )
