use Rattle.std.proofs.Common.{◌<◌, ◌%◌, subst, sym}
use Rattle.fisca_inputs.specs.Places.{number_in}
use Rattle.fisca_inputs.proofs.Numbered.{page_set, within_page}
use Rattle.fisca_inputs.proofs.table.renumber.Goals as goal

pub set-requires : goal.set-requires
set-requires c =
    rw c.place_of.ensures
    (within_page c.in-Some.page.now (c.args.key.now.member % 64)
    (subst (λ o. 0 < number_in o (c.args.key.now.member % 64)) (sym (rw c.page_of.ensures at c.in-Some.ensures.value)) c.requires))

pub returns : goal.returns
returns c =
    rw ((c.get_mut.follows.holds c.set.new.self).0, c.page_of.ensures)
    (page_set c.args.pages.now.entries c.args.key.now c.args.number c.in-Some.page.now c.set.new.self (rw c.page_of.ensures at c.in-Some.ensures.value) (rw c.place_of.ensures at c.set.ensures))
