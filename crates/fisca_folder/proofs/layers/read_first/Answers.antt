use Rattle.fisca_folder.proofs.Laying.{first_laid}
use Rattle.fisca_folder.proofs.layers.read_first.Goals as goal

pub returns : goal.returns
returns g c = λ known says. (
  record { name = c.name.result.now; files = c.in_ok-files.files.items },
  (c.name.ensures known says, c.in_ok-files.ensures.answer known says),
  first_laid c.args.is_alone c.name.result.now c.in_ok-files.files.items c.as_slice.result.now c.in_ok-told.told.items c.as_slice.ensures.value c.in_ok-told.ensures,
)
