use Rattle.std.proofs.Common.{Some, None, sym, ap, ◌∙◌}
use Rattle.std.proofs.lemmas.Option.{slice_get-get_or, slice_get_past}
use Rattle.fisca_groups.specs.Lookup.{home_in}
use Rattle.fisca_members.proofs.KindsAt.{kind_at}
use Rattle.fisca_members.proofs.members.Members.home.Goals as goal

pub returns-in-Some : goal.returns-in-Some
returns-in-Some c =
    let kind = c.in-Some.kind.now in
    let look = c.in-Some.ensures.lookup in
    let there = slice_get-get_or c.as_slice.result.now c.args.entity kind look.3.0 ∙ ap Some (sym look.1) in
    let found = kind_at c.self.inside.owners c.self.inside.kinds.items c.as_slice.result.now c.args.self.now c.args.entity (Some kind) c.self.view_is c.as_slice.ensures.value there in
    c.home.ensures ∙ sym (ap (home_in c.args.person) found)

pub returns-in-None : goal.returns-in-None
returns-in-None c =
    let none = slice_get_past c.as_slice.result.now c.args.entity c.in-None.ensures.lookup.3 in
    let found = kind_at c.self.inside.owners c.self.inside.kinds.items c.as_slice.result.now c.args.self.now c.args.entity None c.self.view_is c.as_slice.ensures.value none in
    sym (ap (home_in c.args.person) found)
