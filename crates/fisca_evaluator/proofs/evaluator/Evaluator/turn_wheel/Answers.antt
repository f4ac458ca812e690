use Rattle.fisca_simulation.specs.Simulations.{sources}
use Rattle.fisca_evaluator.proofs.Memories.{turned_memory}
use Rattle.fisca_evaluator.specs.Evaluators.{marks_in, simulation_of}
use Rattle.fisca_evaluator.proofs.evaluator.Evaluator.turn_wheel.Goals as goal

pub returns-clause-memory : goal.returns-clause-memory
returns-clause-memory g c turned still memory =
    let e = c.args.self.now in
    turned_memory (marks_in e) c.args.wheel (sources (simulation_of e)) (sources turned) (g.R.Recall.find e.store.recall) _ e.store.counts.free still c.drop_moved.ensures memory
