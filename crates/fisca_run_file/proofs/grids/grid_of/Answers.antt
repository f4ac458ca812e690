use Rattle.std.proofs.Common.{◌≡◌, ◌∙◌, ap, sym, length, sum}
use Rattle.std.proofs.lemmas.List.{length-map}
use Rattle.fisca_run_file.proofs.Lefts.{grouped_by}
use Rattle.fisca_run_file.specs.SaidAxes as said
use Rattle.fisca_run_file.specs.Views.{said_axis, said_list}
use Rattle.fisca_run_file.proofs.grids.grid_of.Goals as goal

pub returns-in-Ok-clause-grouped : goal.returns-in-Ok-clause-grouped
returns-in-Ok-clause-grouped c =
    let specs = c.as_slice-2.result.now in
    let lengths = c.as_slice-3.result.now in
    let axes = c.as_slice.result.now in
    let many : length specs ≡ length c.args.said.now.axes.items =
    ap length (c.as_slice-2.ensures.value ∙ c.in_ok-specs.ensures)
    ∙ (length-map (said_list axes) (λ (x : said.SaidAxis). x.spec) ∙ (length-map axes said_axis ∙ ap length c.as_slice.ensures.value)) in
    let all : sum lengths ≡ length specs = ap sum c.as_slice-3.ensures.value ∙ (c.args.said.now.grouped ∙ sym many) in
    grouped_by c.in-Ok.axes specs lengths c.in-Ok.ensures.ok.0 all ∙ c.as_slice-3.ensures.value
