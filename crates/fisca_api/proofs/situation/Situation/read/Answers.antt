use Rattle.fisca_yaml.specs.Views.{node}
use Rattle.fisca_api.proofs.Fitting.{read_told}
use Rattle.fisca_api.proofs.OfGiven.{read_kept_told}
use Rattle.fisca_api.proofs.situation.Situation.read.Goals as goal

pub returns-clause-fit : goal.returns-clause-fit
returns-clause-fit c =
    read_told c.args.rules.now c.args.default (node c.args.tree.now) c.in_ok-reading.reading c.situation_of.result c.in_ok-reading.ensures c.situation_of.ensures.situation

pub returns-clause-shared : goal.returns-clause-shared
returns-clause-shared c =
    read_kept_told c.args.rules.now.tables c.args.default (node c.args.tree.now) c.in_ok-reading.reading c.situation_of.result c.in_ok-reading.ensures c.situation_of.ensures.situation
