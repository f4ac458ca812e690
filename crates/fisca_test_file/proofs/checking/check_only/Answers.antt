use Rattle.std.proofs.Common.{◌≡◌, [], ◌∷◌, ap, Ok}
use Rattle.fisca_num.specs.Results.{and_then}
use Rattle.fisca_test_file.specs.Tests.{Test}
use Rattle.fisca_test_file.specs.Views.{test}
use Rattle.fisca_test_file.proofs.checking.check_only.Goals as goal

pub returns-clause-ok : goal.returns-clause-ok
returns-clause-ok c = (test c.in_ok-_test._test ∷ [], ap (λ r. and_then r (λ (t : Test). Ok (t ∷ []))) c.in_ok-_test.ensures)
