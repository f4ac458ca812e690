use Rattle.std.proofs.Common.{◌∙◌, ap, sym}
use Rattle.fisca_machine.proofs.Choosing.{not_alone, nothing_chooses, placed_alone}
use Rattle.fisca_machine.specs.Plans.{is_alone}
use Rattle.fisca_machine.proofs.plan.only_place.Goals as goal

pub returns-in_default-clause-only : goal.returns-in_default-clause-only
returns-in_default-clause-only c = sym (not_alone c.args.x.now c.as_slice.result.now c.as_slice.ensures.value c.in_default.len_at_least)

pub returns-in-len1-clause-some : goal.returns-in-len1-clause-some
returns-in-len1-clause-some c = (
  nothing_chooses c.args.x.now c.as_slice.result.now c.as_slice.ensures.value c.in-empty.len_below,
  placed_alone c.args.x.now c.as_slice-2.result.now c.place-item.result (c.as_slice-2.ensures.value ∙ ap (λ v. v.items) c.deref.ensures) c.in-len1.len_at_least c.in-len1.len_below c.place-item.is,
)

pub returns-in-len1-clause-only : goal.returns-in-len1-clause-only
returns-in-len1-clause-only c =
    let none = nothing_chooses c.args.x.now c.as_slice.result.now c.as_slice.ensures.value c.in-empty.len_below in
    let places = placed_alone c.args.x.now c.as_slice-2.result.now c.place-item.result (c.as_slice-2.ensures.value ∙ ap (λ v. v.items) c.deref.ensures) c.in-len1.len_at_least c.in-len1.len_below c.place-item.is in
    sym (λ i. is_alone (none i) (places i))
