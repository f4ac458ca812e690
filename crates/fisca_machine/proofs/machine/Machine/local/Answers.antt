use Rattle.std.proofs.Common.{arith}
use Rattle.fisca_machine.specs.Running.{point, rest}
use Rattle.fisca_machine.specs.Context.{tables, groups}
use Rattle.fisca_machine.proofs.Locals.{local_seen, local_stands, local_same, local_lighter}
use Rattle.fisca_machine.proofs.machine.Machine.local.Goals as goal

pub unreachable-requires : goal.unreachable-requires
unreachable-requires c =
    local_seen (tables c.args.context.now) (groups c.args.context.now) c.args.self.now.locals.now c.args.at.visible c.args.place (point c.args.self.now.frame c.args.at) (rest c.args.context.now c.args.self.now) c.requires.moving c.if-place-at.true

pub unreachable-requires-in-None : goal.unreachable-requires-in-None
unreachable-requires-in-None c =
    local_stands (tables c.args.context.now) (groups c.args.context.now) c.args.self.now.locals.now c.args.at.visible c.args.place (point c.args.self.now.frame c.args.at) (rest c.args.context.now c.args.self.now) c.requires.moving c.if-place-at.false c.in-None.ensures

pub returns-clause-same : goal.returns-clause-same
returns-clause-same c =
    local_same (tables c.args.context.now) (groups c.args.context.now) c.args.self.now.locals.now c.args.at.visible c.args.place (point c.args.self.now.frame c.args.at) (rest c.args.context.now c.args.self.now) c.in-Some.local.now c.if-place-at.false c.in-Some.ensures

pub returns-clause-lighter : goal.returns-clause-lighter
returns-clause-lighter c =
    let p = local_lighter (groups c.args.context.now) c.args.self.now.frame c.args.self.now.locals.now c.args.at.visible c.args.place c.in-Some.local.now c.if-place-at.false c.in-Some.ensures in
    rw p (omega arith)
