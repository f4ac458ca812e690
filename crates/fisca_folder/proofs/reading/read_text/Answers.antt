use Rattle.std.proofs.Common.{subst}
use Rattle.fisca_folder.specs.Folder.{IsTextOf}
use Rattle.fisca_folder.proofs.FirstFiles.{told_of_first}
use Rattle.fisca_folder.proofs.reading.read_text.Goals as goal

pub returns-clause-answer : goal.returns-clause-answer
returns-clause-answer g c = λ known says.
    told_of_first c.args.path.now (known.bytes c.args.path.now) c.text_of_file.result
    (subst (λ seen. IsTextOf c.args.path.now seen c.text_of_file.result) (c.in_ok-bytes.ensures known says) c.text_of_file.ensures.answer)
