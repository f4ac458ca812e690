use Rattle.std.proofs.Common.{length, map, refl, sym}
use Rattle.std.proofs.lemmas.Option.{slice_get_past, slice_get_read}
use Rattle.fisca_ir.specs.Views.{node}
use Rattle.fisca_machine.proofs.Locals.{local_lighter}
use Rattle.fisca_machine.specs.Context.{groups, tables}
use Rattle.fisca_simulation.specs.Followers.{point_of}
use Rattle.fisca_simulation.proofs.Below.{below_past, local_none, local_same}
use Rattle.fisca_simulation.proofs.follower.Follower.local.Goals as goal

pub unreachable-requires : goal.unreachable-requires
unreachable-requires g c =
    let s = c.args.self.now in
    c.requires.seen (below_past (tables s.context) (groups s.context) (map node s.locals.now) c.args.at.visible c.args.place (point_of s c.args.at) c.if-place-at.true)

pub unreachable-requires-in-None : goal.unreachable-requires-in-None
unreachable-requires-in-None g c =
    let s = c.args.self.now in
    c.requires.seen (local_none (tables s.context) (groups s.context) s.locals.now c.args.at.visible c.args.place (point_of s c.args.at) c.if-place-at.false (slice_get_past s.locals.now c.args.place c.in-None.ensures.lookup.3))

pub returns-clause-told : goal.returns-clause-told
returns-clause-told g c =
    let s = c.args.self.now in
    let there = c.in-Some.ensures.lookup in
    local_same (tables s.context) (groups s.context) s.locals.now c.args.at.visible c.args.place (point_of s c.args.at) c.in-Some.local.now c.if-place-at.false (slice_get_read s.locals.now (length s.locals.now) c.args.place c.in-Some.local.now refl there.3.0 there.1)

pub returns-clause-weight : goal.returns-clause-weight
returns-clause-weight g c =
    let s = c.args.self.now in
    let there = c.in-Some.ensures.lookup in
    sym (local_lighter (groups s.context) s.frame s.locals.now c.args.at.visible c.args.place c.in-Some.local.now c.if-place-at.false (slice_get_read s.locals.now (length s.locals.now) c.args.place c.in-Some.local.now refl there.3.0 there.1))
