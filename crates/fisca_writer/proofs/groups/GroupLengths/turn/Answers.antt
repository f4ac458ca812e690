use Rattle.std.proofs.Common.{◌<◌, ◌≡◌, ◌≤◌, ◌+◌, ◌∙◌, List, ℕ, arith, length, length-set, subst, take, get_or, set}
use Rattle.std.proofs.lemmas.List.{get_or-take, length-take-le}
use Rattle.fisca_writer.specs.Turning.{IsTurn}
use Rattle.fisca_writer.proofs.Places.{AreTurned, is_turn, turned_all, turned_here, turned_none, turned_over}
use Rattle.fisca_writer.proofs.groups.GroupLengths.turn.Goals as goal

pub loop-group-init : goal.loop-group-init
loop-group-init c = record { many = c.told-places; turned = turned_none _ _ }

pub loop-group-preserved : goal.loop-group-preserved
loop-group-preserved c =
    let lasts = take c.self.inside.count c.self.inside.lasts in
    let now = c.loop-group.places in
    let group = c.loop-group.group in
    let whole : length lasts ≡ c.self.inside.count = length-take-le c.self.inside.count c.self.inside.lasts (omega (arith, c.self.invariant)) in
    let last : get_or lasts group 0 ≡ get_or c.self.inside.lasts group 0 = get_or-take c.self.inside.count c.self.inside.lasts group 0 c.loop-group-test.true in
    let over : get_or lasts group 0 ≤ get_or now group 0 = omega (arith, last, c.if-places-group.false) in
    record {
      many = length-set now group 0 ∙ c.loop-group.invariant.many;
      turned = turned_over lasts c.args.places.now now group (omega (arith, whole, c.loop-group-test.true)) (omega (arith, c.loop-group.invariant.many, c.loop-group-test.true, c.self.invariant)) c.loop-group.invariant.turned over;
    }

pub returns-then-places-group : goal.returns-then-places-group
returns-then-places-group c =
    let lasts = take c.self.inside.count c.self.inside.lasts in
    let now = c.loop-group.places in
    let group = c.loop-group.group in
    let whole : length lasts ≡ c.self.inside.count = length-take-le c.self.inside.count c.self.inside.lasts (omega (arith, c.self.invariant)) in
    let last : get_or lasts group 0 ≡ get_or c.self.inside.lasts group 0 = get_or-take c.self.inside.count c.self.inside.lasts group 0 c.loop-group-test.true in
    let less : get_or now group 0 < get_or lasts group 0 = omega (arith, last, c.if-places-group.true) in
    let is = turned_here lasts c.args.places.now now group (omega (arith, whole, c.loop-group-test.true)) (omega (arith, c.loop-group.invariant.many, c.loop-group-test.true, c.self.invariant)) c.loop-group.invariant.turned less in
    subst (λ (counts : List ℕ). IsTurn counts c.args.places.now (set now group (get_or now group 0 + 1)) (group + 1)) c.self.view_is (is_turn lasts _ _ _ is)

pub returns : goal.returns
returns c =
    let lasts = take c.self.inside.count c.self.inside.lasts in
    let whole : length lasts ≡ c.self.inside.count = length-take-le c.self.inside.count c.self.inside.lasts (omega (arith, c.self.invariant)) in
    let end : c.loop-group.group ≡ c.self.inside.count = omega (arith, c.loop-group.auto.group-end, c.loop-group-test.false) in
    let turned = subst (λ (group : ℕ). AreTurned lasts c.args.places.now c.loop-group.places group) end c.loop-group.invariant.turned in
    subst (λ (counts : List ℕ). IsTurn counts c.args.places.now c.loop-group.places c.self.inside.count) c.self.view_is (is_turn lasts _ _ _ (turned_all lasts _ _ c.self.inside.count whole turned))
