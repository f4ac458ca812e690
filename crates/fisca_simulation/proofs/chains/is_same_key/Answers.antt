use Rattle.std.proofs.Common.{◌≡◌, Bool, true, false, refl, sym, ap, ◌∙◌}
use Rattle.std.specs.Prelude.{◌&&◌, ◌==◌}
use Rattle.fisca_key_semantics.specs.Keys.{same_span}
use Rattle.fisca_key_semantics.proofs.KeyFacts.{same_period}
use Rattle.fisca_simulation.proofs.chains.is_same_key.Goals as goal

with_true : (b s : Bool) → s ≡ true → b ≡ (b && s)
with_true true s h = sym h
with_true false s h = refl

with_false : (a b s : Bool) → s ≡ false → false ≡ (a && (b && s))
with_false true true s h = sym h
with_false true false s h = refl
with_false false b s h = refl

pub returns-then-eq : goal.returns-then-eq
returns-then-eq c =
    let a = c.args.left.now in
    let b = c.args.right.now in
    let periods : same_span a.period b.period ≡ true = sym (same_period a.period b.period c.keys_lie_in_the_calendar.ensures c.keys_lie_in_the_calendar-2.ensures) ∙ sym c.eq.ensures ∙ c.if-eq.true in
    c.is_same_owner.ensures ∙ ap (λ x. (a.variable == b.variable) && x) (with_true (a.member == b.member) (same_span a.period b.period) periods)

pub returns-else-eq : goal.returns-else-eq
returns-else-eq c =
    let a = c.args.left.now in
    let b = c.args.right.now in
    let periods : same_span a.period b.period ≡ false = sym (same_period a.period b.period c.keys_lie_in_the_calendar.ensures c.keys_lie_in_the_calendar-2.ensures) ∙ sym c.eq.ensures ∙ c.if-eq.false in
    c.if-eq.false ∙ with_false (a.variable == b.variable) (a.member == b.member) (same_span a.period b.period) periods
