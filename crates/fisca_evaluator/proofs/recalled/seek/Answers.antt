use Rattle.std.proofs.Common.{Err, map, sym, ap, ◌∙◌, arith}
use Rattle.fisca_model.specs.Causes.{fault_at, too_deep}
use Rattle.fisca_key_semantics.proofs.Paths.{In-has}
use Rattle.fisca_memo_theory.specs.Entries.{Remembered}
use Rattle.fisca_memo_theory.proofs.Settled.{cycle_answer}
use Rattle.fisca_memo_theory.proofs.WorkDone.{stack_work}
use Rattle.fisca_model.specs.Seen.{key_seen}
use Rattle.fisca_evaluator.proofs.Recalls.{hit_below, hit_read, hit_tall, not_remembered, not_standing}
use Rattle.fisca_simulation.proofs.Origins.{no_formula}
use Rattle.fisca_evaluator.specs.Evaluations.{seen, sources_in}
use Rattle.fisca_evaluator.proofs.recalled.seek.Goals as goal

pub returns-then-not-has_formulas-clause-miss : goal.returns-then-not-has_formulas-clause-miss
returns-then-not-has_formulas-clause-miss g c =
    let none = no_formula (seen c.args.evaluation.now) (key_seen c.args.key.now) (sym c.has_formulas.ensures ∙ c.if-not-has_formulas.true) in
    not_remembered c.args.evaluation.now c.args.keys.now c.args.key.now none (g.R.Recall.find c.args.recall.now) c.requires.truth

pub returns-then-not-has_formulas-clause-away : goal.returns-then-not-has_formulas-clause-away
returns-then-not-has_formulas-clause-away g c =
    let none = no_formula (seen c.args.evaluation.now) (key_seen c.args.key.now) (sym c.has_formulas.ensures ∙ c.if-not-has_formulas.true) in
    not_standing c.args.evaluation.now c.args.keys.now c.args.key.now none c.requires.stack

pub returns-then-known-keys-clause-fault : goal.returns-then-known-keys-clause-fault
returns-then-known-keys-clause-fault g c =
    hit_tall c.args.evaluation.now c.args.keys.now c.args.key.now (g.R.Recall.find c.args.recall.now) c.look.result c.in-Some.known c.requires.truth c.in-Some.is c.look.ensures c.requires.stack (omega (arith, c.if-known-keys.true))
    ∙ ap (λ k. Err (fault_at too_deep k)) (sym c.first_of_chain.ensures)

pub returns-in-Some-clause-known : goal.returns-in-Some-clause-known
returns-in-Some-clause-known g c =
    hit_below c.args.evaluation.now c.args.keys.now c.args.key.now (g.R.Recall.find c.args.recall.now) c.look.result c.in-Some.known c.requires.truth c.in-Some.is c.look.ensures (omega (arith, c.if-known-keys.false))

pub returns-in-Some-clause-read : goal.returns-in-Some-clause-read
returns-in-Some-clause-read g c =
    hit_read c.args.evaluation.now c.args.keys.now c.args.key.now (g.R.Recall.find c.args.recall.now) c.look.result c.in-Some.known c.requires.truth c.in-Some.is c.look.ensures c.requires.reads

pub returns-then-stands_in-clause-fault : goal.returns-then-stands_in-clause-fault
returns-then-stands_in-clause-fault g c =
    cycle_answer (sources_in c.args.evaluation.now) (map key_seen c.args.keys.now) (key_seen c.args.key.now) c.requires.stack (sym c.stands_in.ensures ∙ c.if-stands_in.true)

pub returns-then-stands_in-clause-stopped : goal.returns-then-stands_in-clause-stopped
returns-then-stands_in-clause-stopped g c =
    stack_work (sources_in c.args.evaluation.now) (Remembered (g.R.Recall.find c.args.recall.now)) (map key_seen c.args.keys.now) _ (key_seen c.args.key.now) c.requires.stack.path c.requires.passed
    (In-has (map key_seen c.args.keys.now) (key_seen c.args.key.now) (sym c.stands_in.ensures ∙ c.if-stands_in.true))
