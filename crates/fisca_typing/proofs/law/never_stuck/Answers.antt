use Rattle.fisca_typing.specs.Wellformed.{before_cast}
use Rattle.fisca_typing.proofs.GoodFormulas.{formula-typed}
use Rattle.fisca_typing.proofs.Sound.{formula-safe}
use Rattle.fisca_typing.proofs.law.never_stuck.Goals as goal

pub returns : goal.returns
returns c = record {
  written = λ n g t ls e f none have h p. formula-safe n.tables g f (before_cast t) have (formula-typed n t ls e f none h) p;
  typed = formula-safe;
}
