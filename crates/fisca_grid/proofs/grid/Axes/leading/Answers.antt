use Rattle.std.proofs.Common.{◌≡◌, ◌∙◌, Some, arith, ap, slice_get, sym}
use Rattle.std.proofs.lemmas.List.{length-map}
use Rattle.fisca_grid.specs.Grid.{axes_in, leading_in}
use Rattle.fisca_grid.specs.Turning.{axes_of}
use Rattle.fisca_grid.proofs.Rest.{leading_is}
use Rattle.fisca_grid.proofs.grid.Axes.leading.Goals as goal

pub returns-in-Some : goal.returns-in-Some
returns-in-Some c =
    let axes = c.self.inside.axes.items in
    let lengths = c.self.inside.lengths.items in
    let first : slice_get lengths 0 ≡ Some c.in-Some.length.now = ap (λ ns. slice_get ns 0) (sym c.deref.ensures.value) ∙ sym c.in-Some.ensures.value in
    let is = leading_is (axes_of axes) lengths c.in-Some.length.now (c.self.invariant.grouped ∙ sym (length-map axes (λ t. t.axis.spec))) first in
    record { count = is.0 ∙ ap leading_in c.self.view_is; within = omega (arith, is.1, ap axes_in c.self.view_is) }
