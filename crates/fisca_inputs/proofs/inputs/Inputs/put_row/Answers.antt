use Rattle.std.proofs.Common.{◌≡◌, ◌≢◌, ◌≤◌, length, refl, sym, ap, ◌∙◌, arith, rules}
use Rattle.std.proofs.lemmas.List.{drop_all}
use Rattle.std.specs.Prelude.{Err}
use Rattle.fisca_inputs.specs.Steps.Defaults.{first_line, row_of}
use Rattle.fisca_inputs.specs.Entries.{key}
use Rattle.fisca_inputs.specs.Steps.Entries.{put_free, put_all}
use Rattle.fisca_inputs.specs.declared.fault.SituationKind.TheVariants.{Memory}
use Rattle.fisca_inputs.proofs.First.{from_first}
use Rattle.fisca_inputs.proofs.Rows.{row_at, length-row}
use Rattle.fisca_inputs.proofs.Steps.{goes_on, stops}
use Rattle.fisca_inputs.proofs.inputs.Inputs.put_row.Goals as goal

pub returns-in_err-put_default : goal.returns-in_err-put_default
returns-in_err-put_default c =
    let x = c.args.key.now.variable in
    let p = c.args.key.now.period in
    let m = c.loop-member.member in
    let line = first_line c.args.givens.now x in
    let value = c.args.value.now in
    let keys = row_of x c.args.count p in
    let fault = c.in_err-put_default.field-0.0 in
    let told : (fault.kind ≢ Memory → put_all line value keys c.args.self.now ≡ Err fault) =
    λ n. stops (put_free line value) (put_all line value) (λ k ks es. refl) keys m (key x m p) c.loop-member.self fault (put_all line value keys c.args.self.now)
    (row_at x c.args.count p m c.loop-member-test.true) (c.in_err-put_default.ensures.0 n) c.loop-member.invariant in
    search (rules, told, c.in_err-put_default.ensures.1, c.from_residual.ensures)

pub loop-member-init : goal.loop-member-init
loop-member-init c = from_first (first_line c.args.givens.now c.args.key.now.variable) c.args.value.now c.args.key.now c.args.first c.args.count c.args.self.now c.requires

pub loop-member-preserved : goal.loop-member-preserved
loop-member-preserved c =
    let x = c.args.key.now.variable in
    let p = c.args.key.now.period in
    let m = c.loop-member.member in
    let line = first_line c.args.givens.now x in
    let value = c.args.value.now in
    let keys = row_of x c.args.count p in
    goes_on (put_free line value) (put_all line value) (λ k ks es. refl) keys m (key x m p) c.loop-member.self c.put_default.new.self (put_all line value keys c.args.self.now)
    (row_at x c.args.count p m c.loop-member-test.true) c.in_ok-put_default.ensures c.loop-member.invariant

pub returns : goal.returns
returns c =
    let x = c.args.key.now.variable in
    let p = c.args.key.now.period in
    let m = c.loop-member.member in
    let keys = row_of x c.args.count p in
    let past : length keys ≤ m = omega (arith, length-row x c.args.count p, c.loop-member-test.false) in
    sym c.loop-member.invariant ∙ ap (λ ks. put_all (first_line c.args.givens.now x) c.args.value.now ks c.loop-member.self) (drop_all m keys past)
