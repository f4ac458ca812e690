use Rattle.fisca_simulation.specs.Simulations.{sources}
use Rattle.fisca_evaluator.proofs.Memories.{turned_memory}
use Rattle.fisca_evaluator.proofs.session.Session.turn_wheel.Goals as goal

pub returns-clause-memory : goal.returns-clause-memory
returns-clause-memory g c marks before after still memory =
    let store = c.args.self.now.store in
    turned_memory marks c.args.wheel (sources before) (sources after) (g.R.Recall.find store.recall) _ store.counts.free still c.drop_moved.ensures memory
