use Rattle.std.proofs.Common.{◌≡◌, ◌∷◌, ◌+◌, ◌∙◌, None, Some, drop, take, drop-cons, add-one, get_or, ap, sym}
use Rattle.std.specs.Option.{option_or}
use Rattle.fisca_grid.specs.Grid.{groups_of}
use Rattle.fisca_grid.proofs.Groups.{left_grouped}
use Rattle.fisca_run_file.proofs.Lefts.{left_differing}
use Rattle.fisca_run_file.specs.Steps.Grids.{differing_line, first_differing}
use Rattle.fisca_run_file.specs.Views.{said_list}
use Rattle.fisca_run_file.proofs.grids.first_differing.Goals as goal

pub loop-length-preserved : goal.loop-length-preserved
loop-length-preserved c =
    let lengths = c.args.lengths.now in
    let rest = c.loop-length.rest.now in
    let i = c.loop-length.length-index in
    let n = get_or lengths i 0 in
    let later = drop (i + 1) lengths in
    let cut : drop i lengths ≡ n ∷ later = rw add-one (drop-cons lengths i 0 c.loop-length-test.true) in
    let grouped = rw cut at c.loop-length.invariant.grouped in
    let same = rw cut at c.loop-length.invariant.same in
    let none : differing_line (said_list (take n rest)) ≡ None = ap (λ g. differing_line (said_list g)) (sym c.split_at.ensures.front) ∙ (sym c.differing_line.ensures ∙ c.in_default.is) in
    rw c.split_at.ensures.back (record { grouped = left_grouped rest n later grouped; same = same ∙ (left_differing rest n later ∙ ap (λ o. option_or o (first_differing (groups_of (said_list (drop n rest)) later))) none) })

pub returns-in-Some : goal.returns-in-Some
returns-in-Some c =
    let lengths = c.args.lengths.now in
    let rest = c.loop-length.rest.now in
    let i = c.loop-length.length-index in
    let n = get_or lengths i 0 in
    let later = drop (i + 1) lengths in
    let cut : drop i lengths ≡ n ∷ later = rw add-one (drop-cons lengths i 0 c.loop-length-test.true) in
    let same = rw cut at c.loop-length.invariant.same in
    let there : differing_line (said_list (take n rest)) ≡ Some c.in-Some.line =
    ap (λ g. differing_line (said_list g)) (sym c.split_at.ensures.front) ∙ (sym c.differing_line.ensures ∙ c.in-Some.is) in
    sym (same ∙ (left_differing rest n later ∙ ap (λ o. option_or o (first_differing (groups_of (said_list (drop n rest)) later))) there))
