use Rattle.fisca_folder.proofs.Laying.{all_laid, first_refused}
use Rattle.fisca_folder.proofs.layers.read_layers.Goals as goal

pub returns-in-Ok : goal.returns-in-Ok
returns-in-Ok g c = λ known others says each.
    all_laid g.F.RuleFolder.says c.args.reforms.now known others c.is_empty.result c.in-Ok.laid c.lay_all.result each c.is_empty.ensures (c.in-Ok.ensures known says) (c.lay_all.ensures others each)

pub returns-in-Err : goal.returns-in-Err
returns-in-Err g c = λ known others says each. first_refused known others c.in-Err.fault (c.in-Err.ensures known says)
