use Rattle.fisca_folder.proofs.layers.lay_folder.Goals as goal

pub returns : goal.returns
returns g c = λ known says.
    (record { name = c.name.result.now; files = c.in_ok-files.files.items }, (c.name.ensures known says, c.in_ok-files.ensures.answer known says), c.in_ok-lay_files.ensures)
