use Rattle.fisca_folder.proofs.Laying.{more_laid}
use Rattle.fisca_folder.proofs.layers.lay_files.Goals as goal

pub returns : goal.returns
returns c =
    more_laid c.args.laid c.args.name.now c.args.files.items c.as_slice.result.now c.laid.inside.files.items _ c.in_ok-told.told.items c.laid.inside.told.items _
    c.laid.view_is c.as_slice.ensures.value c.in_ok-told.ensures c.in_ok-append.ensures.items c.in_ok-lay_over.ensures
