-- How definitions see what the code keeps of tests.
use Rattle.std.specs.Prelude.{option_map}
use Rattle.fisca_situations.specs.Steps.Views.{situation}
use Rattle.fisca_test_file.specs.Tests as tests
use Rattle.fisca_test_file.specs.declared.test.Test.{Test}

abbrev pub test : Test → tests.Test
test t = record { name = option_map (λ n. n.now) t.name; situation = situation t.situation; margins = t.margins; outputs = t.outputs }
