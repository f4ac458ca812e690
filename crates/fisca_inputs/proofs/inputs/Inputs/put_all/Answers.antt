use Rattle.std.proofs.Common.{◌≡◌, ◌≢◌, refl, rules}
use Rattle.std.specs.Prelude.{Err}
use Rattle.fisca_inputs.specs.Steps.Entries.{put_free, put_all}
use Rattle.fisca_inputs.specs.Steps.Sharing.{parts_by}
use Rattle.fisca_inputs.specs.declared.fault.SituationKind.TheVariants.{Memory}
use Rattle.fisca_inputs.proofs.Steps.{goes_on, stops}
use Rattle.fisca_inputs.proofs.inputs.Inputs.put_all.Goals as goal

pub returns-in_err-put_free : goal.returns-in_err-put_free
returns-in_err-put_free c =
    let line = c.args.given.now.line in
    let value = c.args.value.now in
    let keys = parts_by c.args.unit c.args.given.now in
    let fault = c.in_err-put_free.field-0.0 in
    let told : (fault.kind ≢ Memory → put_all line value keys c.args.self.now ≡ Err fault) =
    λ n. stops (put_free line value) (put_all line value) (λ k ks es. refl) keys c.loop-i.i c.part_at.result c.loop-i.self fault (put_all line value keys c.args.self.now)
    c.part_at.ensures (c.in_err-put_free.ensures.0 n) c.loop-i.invariant in
    search (rules, told, c.in_err-put_free.ensures.1, c.from_residual.ensures)

pub loop-i-preserved : goal.loop-i-preserved
loop-i-preserved c =
    let line = c.args.given.now.line in
    let value = c.args.value.now in
    let keys = parts_by c.args.unit c.args.given.now in
    goes_on (put_free line value) (put_all line value) (λ k ks es. refl) keys c.loop-i.i c.part_at.result c.loop-i.self c.put_free.new.self (put_all line value keys c.args.self.now)
    c.part_at.ensures c.in_ok-put_free.ensures c.loop-i.invariant
