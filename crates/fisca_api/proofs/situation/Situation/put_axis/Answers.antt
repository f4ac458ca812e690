use Rattle.fisca_situations.specs.Steps.Views.{situation as shared_view}
use Rattle.fisca_api.specs.Views.{situation}
use Rattle.fisca_api.proofs.Moving.{axis_told}
use Rattle.fisca_api.proofs.situation.Situation.put_axis.Goals as goal

pub returns-clause-moved : goal.returns-clause-moved
returns-clause-moved c =
    axis_told c.args.rules.now.tables (situation c.args.self.now) c.args.wheel c.args.key.now c.axis.result c.axis.new.given.items (shared_view c.axis.new.self) (rw c.as_slice-neutral.ensures.value at c.axis.ensures.moved)
