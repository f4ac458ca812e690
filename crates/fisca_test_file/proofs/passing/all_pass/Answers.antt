use Rattle.std.proofs.Common.{◌∙◌}
use Rattle.fisca_test_file.proofs.passing.all_pass.Goals as goal

pub expected_passes-requires-clause-answers : goal.expected_passes-requires-clause-answers
expected_passes-requires-clause-answers g c s is =
    let l = c.loop-expected in
    let here = c.requires.answers s is in
    (l.invariant.2 ∙ here.0, l.invariant.3 ∙ here.1, here.2)
