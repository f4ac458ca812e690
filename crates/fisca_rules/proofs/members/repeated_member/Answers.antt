use Rattle.std.proofs.Common.{◌∙◌, ◌+◌, ℕ, List, [], ◌∷◌, drop, ap, subst}
use Rattle.std.specs.Str.{bytes_eq}
use Rattle.indexmap.specs.IndexSet.{contains}
use Rattle.fisca_rules.proofs.Repeated.{Reached, member_new}
use Rattle.fisca_rules.proofs.Some.{left}
use Rattle.fisca_rules.specs.Steps.Clashes.{repeated_member}
use Rattle.fisca_rules.specs.Titles.{Adds}
use Rattle.fisca_ast.specs.declared.module.Member.{Member}
use Rattle.fisca_rules.proofs.members.repeated_member.Goals as goal

pub loop-member-preserved : goal.loop-member-preserved
loop-member-preserved c =
    let members = c.args.members.now in
    let i = c.loop-member.member-index in
    let has = contains bytes_eq c.loop-member.names in
    let new = contains bytes_eq c.comes_again.new.names in
    let whole = repeated_member [] members in
    let cut = left members i c.member-item.result c.loop-member-test.true c.member-item.is in
    let named = c.borrowed.ensures ∙ c.as_str-name.ensures in
    member_new has new whole c.member-item.result (drop (i + 1) members) c.eq.result c.in_ok-comes_again.field-0
    (subst (λ (ms : List Member). Reached has whole ms) cut c.loop-member.invariant)
    (c.eq.ensures ∙ (λ j. bytes_eq (c.as_bytes.ensures j) (c.as_slice.ensures j)))
    c.if-eq.false
    (c.in_ok-comes_again.ensures.told ∙ ap has named)
    c.if-branch.false
    (subst (λ (t : List ℕ). Adds bytes_eq has new (t ∷ [])) named c.in_ok-comes_again.ensures.noted)
