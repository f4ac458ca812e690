use Rattle.std.proofs.Common.{◌∙◌, ap₂}
use Rattle.std.specs.List.{filter}
use Rattle.fisca_expected.specs.Outputs.{Output}
use Rattle.fisca_expected.specs.Steps.Tested.{is_tested}
use Rattle.fisca_test_file.proofs.test.tested_outputs.Goals as goal

pub returns : goal.returns
returns c = c.tested.ensures ∙ ap₂ (λ only ignored. filter (λ (o : Output). is_tested c.args.tables.now only ignored o.0.variable) c.args.outputs) c.get-only.ensures c.get-ignored.ensures
