use Rattle.std.proofs.Common.{sym}
use Rattle.std.proofs.lemmas.Str.Pattern.{split_once_first}
use Rattle.fisca_columns.proofs.Cuts.{cut_is}
use Rattle.fisca_columns.proofs.written.cut.Goals as goal

pub returns-in-Some : goal.returns-in-Some
returns-in-Some c =
    let text = c.args.text.now in
    let cut = rw c.in-Some.is at (cut_is c.args.sign text c.split_once.result (split_once_first c.args.sign text c.split_once.result c.split_once.ensures.cases c.requires)) in
    sym cut

pub returns-in-None : goal.returns-in-None
returns-in-None c =
    let text = c.args.text.now in
    let cut = rw c.in-None.is at (cut_is c.args.sign text c.split_once.result (split_once_first c.args.sign text c.split_once.result c.split_once.ensures.cases c.requires)) in
    sym cut
