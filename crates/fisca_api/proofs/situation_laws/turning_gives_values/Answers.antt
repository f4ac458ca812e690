use Rattle.fisca_api.proofs.OfGiven.{axis_numbers, moved_kept, turned_at}
use Rattle.fisca_api.proofs.situation_laws.turning_gives_values.Goals as goal

pub returns : goal.returns
returns c = record {
  shared = λ t s wheel k m is period h. moved_kept t s wheel k m is period h;
  numbers = axis_numbers;
  turned = λ t s wheel k m is period h value parts. turned_at t s wheel k m value is period h parts;
}
