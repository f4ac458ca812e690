use Rattle.std.proofs.Common.{sym, subst}
use Rattle.fisca_simulation.specs.Simulations.{sources}
use Rattle.fisca_evaluator.proofs.Memories.{empty_memory}
use Rattle.fisca_evaluator.specs.Recalled.{IsMemory}
use Rattle.fisca_evaluator.proofs.session.Session.new.Goals as goal

pub returns-clause-memory : goal.returns-clause-memory
returns-clause-memory g c marks m =
    let entries = g.R.Recall.find c.args.recall in
    subst (λ counts. IsMemory marks (sources m) entries counts.free) (sym c.new-3.ensures) (empty_memory marks (sources m) entries c.requires.empty)
