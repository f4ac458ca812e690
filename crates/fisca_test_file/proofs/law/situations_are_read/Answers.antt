use Rattle.fisca_test_file.proofs.ReadTests.{test_read}
use Rattle.fisca_test_file.proofs.law.situations_are_read.Goals as goal

pub returns : goal.returns
returns c = test_read
