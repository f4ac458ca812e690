use Rattle.fisca_typing.proofs.Counting.{size-put_in, plain-height}
use Rattle.fisca_typing.proofs.law.sizes_are_of_locals_put_in.Goals as goal

pub returns : goal.returns
returns c = record { put_in = size-put_in; plain = plain-height }
