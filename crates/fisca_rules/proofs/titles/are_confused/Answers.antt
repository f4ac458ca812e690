use Rattle.std.proofs.Common.{◌≡◌, ◌∙◌, [], drop, false, sym, subst, true}
use Rattle.std.proofs.Math.ListN.{drop_of_length-le}
use Rattle.fisca_rules.proofs.Confused.{again_clash, notes_none, notes_stop, notes_then}
use Rattle.fisca_rules.proofs.Some.{left}
use Rattle.fisca_rules.specs.Clashes.{titles}
use Rattle.fisca_rules.specs.Titles.{Notes, titles_of}
use Rattle.fisca_rules.proofs.titles.are_confused.Goals as goal

pub returns-then-branch : goal.returns-then-branch
returns-then-branch c =
    let roles = c.args.roles.now in
    let i = c.loop-role.role-index in
    let new = c.role_comes_again.new.self in
    let cut = left roles i c.role-item.result c.loop-role-test.true c.role-item.is in
    let whole = c.loop-role.invariant new true
    (subst (λ rs. Notes c.loop-role.titles new (titles rs) true) (sym cut)
    (notes_stop c.loop-role.titles new new (titles_of c.role-item.result) _ (subst (λ b. Notes c.loop-role.titles new (titles_of c.role-item.result) b) c.if-branch.true c.in_ok-role_comes_again.ensures))) in
    whole.told [] c.new-titles.ensures ∙ again_clash (titles roles)

pub loop-role-preserved : goal.loop-role-preserved
loop-role-preserved c new b n =
    let roles = c.args.roles.now in
    let i = c.loop-role.role-index in
    let mid = c.role_comes_again.new.self in
    let cut = left roles i c.role-item.result c.loop-role-test.true c.role-item.is in
    c.loop-role.invariant new b
    (subst (λ rs. Notes c.loop-role.titles new (titles rs) b) (sym cut)
    (notes_then c.loop-role.titles mid new (titles_of c.role-item.result) _ b (subst (λ d. Notes c.loop-role.titles mid (titles_of c.role-item.result) d) c.if-branch.false c.in_ok-role_comes_again.ensures) n))

pub returns : goal.returns
returns c =
    let titles_left = c.loop-role.titles in
    let roles = c.args.roles.now in
    let none : drop c.loop-role.role-index roles ≡ [] = drop_of_length-le roles c.loop-role-test.false in
    let whole = c.loop-role.invariant titles_left false (subst (λ rs. Notes titles_left titles_left (titles rs) false) (sym none) (notes_none titles_left)) in
    whole.told [] c.new-titles.ensures ∙ again_clash (titles roles)
