-- How definitions see what the code keeps while expected values are read, and once they are.
use Rattle.std.specs.Prelude.{ℕ, List, map}
use Rattle.fisca_inputs.specs.Entries.{key}
use Rattle.fisca_expected.specs.declared.outputs.ExpectedOutput.{ExpectedOutput}
use Rattle.fisca_expected.specs.declared.subject.Subject.{Subject}
use Rattle.fisca_expected.specs.Outputs as outputs

abbrev pub subject : Subject → outputs.Subject
subject x = record { variable = x.variable; declared = x.declared.now; whom = x.whom }

-- what is expected of the member at this place
abbrev pub output_of : ExpectedOutput → ℕ → outputs.Output
output_of e member = (key e.variable member e.period, e.value)

-- what is kept once is expected of each of the members that are meant, in their order
abbrev pub expected_outputs : ExpectedOutput → List outputs.Output
expected_outputs e = map (output_of e) (outputs.members_of e.whom)
