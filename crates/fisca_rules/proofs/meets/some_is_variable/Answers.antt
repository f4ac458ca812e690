use Rattle.std.proofs.Common.{◌≡◌, List, [], drop, false, true, sym, subst}
use Rattle.std.proofs.Math.ListN.{drop_of_length-le}
use Rattle.indexmap.specs.IndexSet.{contains}
use Rattle.fisca_rules.proofs.Meet.{met_none, met_stop, met_then}
use Rattle.fisca_rules.proofs.Some.{left}
use Rattle.fisca_rules.specs.Seen.{NotesTitles, all_titles_within, same_within, titles_within}
use Rattle.fisca_symbols.specs.declared.role.Role.{Role}
use Rattle.fisca_rules.proofs.meets.some_is_variable.Goals as goal

pub returns-then-branch : goal.returns-then-branch
returns-then-branch c =
    let variables = contains same_within c.args.variables.now in
    let before = contains same_within c.loop-role.titles in
    let new = contains same_within c.role_is_variable.new.titles in
    let of = c.args.constant.now in
    let role = c.role-item.result in
    let cut = left c.args.roles.now c.loop-role.role-index role c.loop-role-test.true c.role-item.is in
    c.loop-role.invariant new true
    (subst (λ (rs : List Role). NotesTitles variables before new (all_titles_within of rs) true) (sym cut)
    (met_stop variables before new new (titles_within of role) _
    (subst (λ b. NotesTitles variables before new (titles_within of role) b) c.if-branch.true c.in_ok-role_is_variable.ensures)))

pub loop-role-preserved : goal.loop-role-preserved
loop-role-preserved c new b n =
    let variables = contains same_within c.args.variables.now in
    let before = contains same_within c.loop-role.titles in
    let mid = contains same_within c.role_is_variable.new.titles in
    let of = c.args.constant.now in
    let role = c.role-item.result in
    let cut = left c.args.roles.now c.loop-role.role-index role c.loop-role-test.true c.role-item.is in
    c.loop-role.invariant new b
    (subst (λ (rs : List Role). NotesTitles variables before new (all_titles_within of rs) b) (sym cut)
    (met_then variables before mid new (titles_within of role) _ b
    (subst (λ d. NotesTitles variables before mid (titles_within of role) d) c.if-branch.false c.in_ok-role_is_variable.ensures) n))

pub returns : goal.returns
returns c =
    let variables = contains same_within c.args.variables.now in
    let reached = contains same_within c.loop-role.titles in
    let none : drop c.loop-role.role-index c.args.roles.now ≡ [] = drop_of_length-le c.args.roles.now c.loop-role-test.false in
    c.loop-role.invariant reached false
    (subst (λ (rs : List Role). NotesTitles variables reached reached (all_titles_within c.args.constant.now rs) false) (sym none) (met_none variables reached))
