use Rattle.std.proofs.Common.{◌<◌, length, set, ap, subst, arith}
use Rattle.fisca_symbols.specs.KnownRoles.{roles as known_roles}
use Rattle.fisca_members.proofs.Drafted.{left_there}
use Rattle.fisca_members.specs.Outcomes.{Leaves}
use Rattle.fisca_members.specs.Steps.Drafts.{drafted}
use Rattle.fisca_members.specs.Steps.Groups.{groups_of}
use Rattle.fisca_members.specs.Steps.Members.{changed_at}
use Rattle.fisca_members.specs.Views.{section as section_view}
use Rattle.fisca_members.proofs.draft.section_at.Goals as goal

pub returns : goal.returns
returns c =
    let ps = c.args.persons.now in
    let ds = c.members.inside.items.items in
    let s = section_view c.args.section.now in
    let place = c.args.section.now.named.entity in
    let inside : place < length ds = omega (arith, c.if-place-len.false, c.len.ensures, c.members.inside.items.ok.0) in
    subst (λ o. Leaves (drafted ps (set ds place c.section_given.new.given)) o c.section_given.result)
    (ap (λ xs. changed_at (drafted ps xs) place (λ k. groups_of (known_roles c.args.roles.now) ps k s)) c.members.view_is)
    (left_there ps ds place c.index_mut-given.result.now c.section_given.new.given (λ k. groups_of (known_roles c.args.roles.now) ps k s) c.section_given.result inside
    c.index_mut-given.ensures.value c.section_given.ensures)
