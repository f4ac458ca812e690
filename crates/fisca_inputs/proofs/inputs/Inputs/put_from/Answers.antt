use Rattle.std.proofs.Common.{◌≡◌, ◌≢◌, drop, refl, subst, sym, arith, rules}
use Rattle.std.specs.Prelude.{Err}
use Rattle.fisca_inputs.specs.Steps.Entries.{put_free, put_all}
use Rattle.fisca_inputs.specs.Steps.Runs.{IsFilled}
use Rattle.fisca_inputs.specs.Steps.Sharing.{parts_by}
use Rattle.fisca_inputs.specs.declared.fault.SituationKind.TheVariants.{Memory}
use Rattle.fisca_inputs.proofs.Filled.{put_free_kept, run_found, run_passed, runs_kept}
use Rattle.fisca_inputs.proofs.Steps.{goes_on, stops}
use Rattle.fisca_inputs.proofs.inputs.Inputs.put_from.Goals as goal

pub returns-then-run-gt0-clause-ok : goal.returns-then-run-gt0-clause-ok
returns-then-run-gt0-clause-ok c =
    let g = c.args.given.now in
    let es = c.args.self.now in
    let k = c.part_at-key.result in
    let noted : IsFilled es (k, c.run_from.result) = subst (λ n. IsFilled es (k, n)) (sym c.run_from.ensures) (run_found es k c.args.runs.now.entries c.requires.runs) in
    let fewer : IsFilled es (k, c.min-run.result) = λ places lt q f. noted places (omega (arith, lt, c.min-run.ensures)) q f in
    run_passed c.args.unit g es c.args.i k c.part_at-key.ensures g.line g.value c.min-run.result fewer

pub returns-in_err-put_free-clause-err : goal.returns-in_err-put_free-clause-err
returns-in_err-put_free-clause-err c =
    let g = c.args.given.now in
    let keys = parts_by c.args.unit g in
    let es = c.args.self.now in
    let fault = c.in_err-put_free.field-0.0 in
    let told : (fault.kind ≢ Memory → put_all g.line g.value (drop c.args.i keys) es ≡ Err fault) =
    λ n. stops (put_free g.line g.value) (put_all g.line g.value) (λ k ks es. refl) keys c.args.i c.part_at-key.result es fault (put_all g.line g.value (drop c.args.i keys) es)
    c.part_at-key.ensures (c.in_err-put_free.ensures.0 n) refl in
    search (rules, told, c.in_err-put_free.ensures.1, c.from_residual.ensures)

pub returns-clause-ok : goal.returns-clause-ok
returns-clause-ok c =
    let g = c.args.given.now in
    let keys = parts_by c.args.unit g in
    let es = c.args.self.now in
    sym (goes_on (put_free g.line g.value) (put_all g.line g.value) (λ k ks es. refl) keys c.args.i c.part_at-key.result es c.put_free.new.self (put_all g.line g.value (drop c.args.i keys) es)
    c.part_at-key.ensures c.in_ok-put_free.ensures refl)

pub returns-clause-runs : goal.returns-clause-runs
returns-clause-runs c =
    let g = c.args.given.now in
    let es = c.args.self.now in
    runs_kept es c.put_free.new.self (put_free_kept g.line g.value c.part_at-key.result es c.put_free.new.self c.in_ok-put_free.ensures) c.args.runs.now.entries c.requires.runs
