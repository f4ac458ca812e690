use Rattle.std.proofs.Common.{◌≡◌, ◌+◌, length, take, ap, arith, rules}
use Rattle.fisca_folder.specs.Folder.{Found}
use Rattle.fisca_folder.proofs.Looks.{looked, seen_kept}
use Rattle.fisca_folder.proofs.listing.look_into.Goals as goal

pub returns-clause-found : goal.returns-clause-found
returns-clause-found g c = λ known says.
    let entries = c.in_ok-entries.entries.items in
    let counted : c.len.result ≡ length entries = search rules in
    looked known _ c.args.found.now c.loop-entry.found c.args.path.now entries c.as_slice-entry-items.result.now c.loop-entry.entry-index c.loop-entry.invariant c.as_slice-entry-items.ensures.value
    c.loop-entry-test.false (rw counted (ap (λ (f : Found). record f { seen = f.seen + length entries }) c.found.view_is)) (c.in_ok-entries.ensures.listed known says)

pub returns-clause-few : goal.returns-clause-few
returns-clause-few g c =
    let counted : c.len.result ≡ length c.in_ok-entries.entries.items = search rules in
    let kept = seen_kept c.args.path.now (take c.loop-entry.entry-index c.as_slice-entry-items.result.now) _ c.loop-entry.found c.loop-entry.invariant in
    omega (arith, kept, counted, c.in_ok-entries.ensures.few)
