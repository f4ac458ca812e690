use Rattle.std.proofs.Common.{◌≡◌, arith, length, get_or, take}
use Rattle.std.proofs.lemmas.List.{get_or-take, length-take-le}
use Rattle.fisca_writer.proofs.Places.{few_places}
use Rattle.fisca_writer.proofs.groups.GroupLengths.places.Goals as goal

pub overflow_add-count : goal.overflow_add-count
overflow_add-count c =
    let lasts = take c.self.inside.count c.self.inside.lasts in
    let group = c.loop-group.group in
    let whole : length lasts ≡ c.self.inside.count = length-take-le c.self.inside.count c.self.inside.lasts (omega (arith, c.self.invariant)) in
    let last : get_or lasts group 0 ≡ get_or c.self.inside.lasts group 0 = get_or-take c.self.inside.count c.self.inside.lasts group 0 c.loop-group-test.true in
    omega (arith, last, few_places lasts group (omega (arith, whole, c.loop-group-test.true)), c.self.invariant.2, c.type_inv.self-inside)
