-- What a grid knows of the axes that it keeps.
use Rattle.std.proofs.Common.{◌≡◌, ℕ, ◌<◌, List, length, get_or, Some, option_map, slice_get, refl, sym, ap, ◌∙◌, arith}
use Rattle.std.proofs.lemmas.List.{length-map}
use Rattle.std.proofs.lemmas.Option.{slice_get-map, slice_get_read}
use Rattle.fisca_grid.specs.Grid.{groups_of, axes_at, axes_in}
use Rattle.fisca_grid.specs.Turning.{axes_of, placed, IsGrid}
use Rattle.fisca_grid.specs.declared.axes.AxisSpec.{AxisSpec}
use Rattle.fisca_grid.specs.declared.turning.Turning.{Turning}
use Rattle.fisca_grid.proofs.Groups.{length-axes_at}

-- so many axes are kept
pub count_is : (axes : List Turning) (lengths counts : List ℕ) (groups : List (List AxisSpec)) → IsGrid axes lengths counts → groups_of (axes_of axes) lengths ≡ groups → length axes ≡ axes_in groups
count_is axes lengths counts groups kept view =
    sym (length-map axes (placed 0)) ∙ ap length (kept.turns 0) ∙ ap (λ groups. length (axes_at groups 0)) view ∙ length-axes_at groups 0

-- the axis at an index, with its place
pub axis_is : (axes : List Turning) (lengths counts : List ℕ) (groups : List (List AxisSpec)) (index position : ℕ) (t : Turning) → IsGrid axes lengths counts → groups_of (axes_of axes) lengths ≡ groups
    → index < axes_in groups → t ≡ get_or axes index t → slice_get (axes_at groups position) index ≡ Some (placed position t)
axis_is axes lengths counts groups index position t kept view less read =
    let inside : index < length axes = omega (arith, less, count_is axes lengths counts groups kept view) in
    ap (λ groups. slice_get (axes_at groups position) index) (sym view) ∙ ap (λ xs. slice_get xs index) (sym (kept.turns position))
    ∙ (slice_get-map (placed position) axes index ∙ ap (option_map (placed position)) (slice_get_read axes (length axes) index t refl inside read))
