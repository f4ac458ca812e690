use Rattle.std.proofs.Common.{sym, ap, subst, true}
use Rattle.std.specs.Prelude.{map}
use Rattle.fisca_rules.proofs.Confused.{notes_here, notes_next}
use Rattle.fisca_rules.proofs.Some.{left}
use Rattle.fisca_rules.specs.Titles.{Notes, subrole}
use Rattle.fisca_rules.proofs.titles.Titles.subrole_comes_again.Goals as goal

pub returns-then-branch : goal.returns-then-branch
returns-then-branch c =
    let keys = c.args.keys.now in
    let i = c.loop-key.key-index in
    let new = c.key_comes_again.new.self in
    let cut = left keys i c.key-item.result c.loop-key-test.true c.key-item.is in
    c.loop-key.invariant new true
    (subst (λ ks. Notes c.loop-key.self new (map subrole ks) true) (sym cut)
    (notes_here c.loop-key.self new new _ _ _ _ c.in_ok-key_comes_again.ensures (ap subrole c.as_str.ensures) c.if-branch.true))

pub loop-key-preserved : goal.loop-key-preserved
loop-key-preserved c new b n =
    let keys = c.args.keys.now in
    let i = c.loop-key.key-index in
    let cut = left keys i c.key-item.result c.loop-key-test.true c.key-item.is in
    c.loop-key.invariant new b
    (subst (λ ks. Notes c.loop-key.self new (map subrole ks) b) (sym cut)
    (notes_next c.loop-key.self c.key_comes_again.new.self new _ _ _ b _ c.in_ok-key_comes_again.ensures (ap subrole c.as_str.ensures) c.if-branch.false n))
