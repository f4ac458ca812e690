use Rattle.fisca_api.proofs.AcceptedTests.{test_told}
use Rattle.fisca_api.proofs.answer_laws.accepted_tests_are_told.Goals as goal

pub returns : goal.returns
returns c = test_told
