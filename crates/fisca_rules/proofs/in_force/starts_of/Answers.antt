use Rattle.std.proofs.Common.{◌≡◌, ◌+◌, ◌-◌, ◌<◌, ℕ, subst, drop, length, arith}
use Rattle.std.specs.BTreeMap.{get}
use Rattle.fisca_time.specs.Instant.{CivilDate, date_cmp}
use Rattle.fisca_rules.specs.Starts.{place_from}
use Rattle.fisca_rules.proofs.Search.{one_more, all_noted}
use Rattle.fisca_rules.proofs.in_force.starts_of.Goals as goal

pub loop-place-preserved : goal.loop-place-preserved
loop-place-preserved c =
    let ds = c.args.formulas.now in
    let i : ℕ = c.loop-place.place - 1 in
    let inside : i < length ds = omega (arith, c.loop-place-test.true, c.loop-place.invariant.0) in
    let same : c.loop-place.place ≡ i + 1 = omega (arith, c.loop-place-test.true) in
    let before = subst (λ k. (day : CivilDate) → get date_cmp c.loop-place.starts day ≡ place_from k (drop k ds) day) same c.loop-place.invariant.1 in
    (omega (arith, inside), one_more c.loop-place.starts c.insert.new.self ds i c.index-formulas-place.result inside c.in_ok-insert.ensures.updates before)

pub returns : goal.returns
returns c = all_noted c.loop-place.starts c.args.formulas.now c.loop-place.place c.loop-place.invariant.1 (omega (arith, c.loop-place-test.false))
