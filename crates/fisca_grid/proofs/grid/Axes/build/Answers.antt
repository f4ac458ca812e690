use Rattle.std.proofs.Common.{◌∙◌, ◌<◌, ◌==◌, List, length, arith, ap, sym, subst}
use Rattle.std.specs.List.{list_any}
use Rattle.std.proofs.lemmas.Bool.{or_parts}
use Rattle.fisca_grid.specs.Grid.{groups_of, size_of}
use Rattle.fisca_grid.specs.Turning.{specs_of}
use Rattle.fisca_grid.specs.declared.axes.AxisSpec.{AxisSpec}
use Rattle.fisca_grid.proofs.Groups.{some_positions, few_axes, few_groups}
use Rattle.fisca_grid.proofs.grid.Axes.build.Goals as goal

pub spread-requires-clause-some : goal.spread-requires-clause-some
spread-requires-clause-some c =
    let accepted = c.in_ok-accepted.ensures.ok in
    let same = ap specs_of c.as_slice.ensures.value ∙ accepted.0 in
    let full = or_parts _ _ (sym c.is_none_in.ensures ∙ c.if-is_none_in.false) in
    subst (λ (axes : List AxisSpec). 0 < size_of (groups_of axes c.args.groups.now)) (sym same)
    (some_positions c.args.specs.now c.args.groups.now accepted.1 full.1 c.requires.grouped)

pub spread-requires-clause-narrow : goal.spread-requires-clause-narrow
spread-requires-clause-narrow c =
    let lengths = c.args.groups.now in
    let full = or_parts (length lengths == 0) (list_any (λ size. size == 0) lengths) (sym c.is_none_in.ensures ∙ c.if-is_none_in.false) in
    omega (arith, few_groups lengths full.1, c.requires.grouped, few_axes (length c.args.specs.now) (groups_of c.args.specs.now lengths) c.in_ok-check_size.ensures.ok)
