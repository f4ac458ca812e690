use Rattle.fisca_typing.specs.Sizes.{size_of}
use Rattle.fisca_typing.proofs.Counting.{capped-size, capped-small}
use Rattle.fisca_typing.proofs.law.counting_to_the_limits_decides_them.Goals as goal

pub returns : goal.returns
returns c = record { size = capped-size; limits = λ ls e. capped-small (size_of ls e) }
