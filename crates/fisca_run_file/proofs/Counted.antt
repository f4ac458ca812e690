-- A list of axes is seen as so many as it has.
use Rattle.std.proofs.Common.{◌≡◌, ℕ, suc, List, [], ◌∷◌, ◌++◌, length, refl, ap, sym, ◌∙◌}
use Rattle.std.specs.Prelude.{Result, Ok}
use Rattle.fisca_columns.specs.declared.fault.RunFileFault.{RunFileFault}
use Rattle.fisca_num.specs.Results.{and_then}
use Rattle.fisca_run_file.specs.SaidAxes.{SaidAxes, SaidAxis}
use Rattle.fisca_run_file.specs.Steps.SaidAxes.{count_items, with_axes, with_list}
use Rattle.fisca_yaml.specs.Views.{items_view}
use Rattle.fisca_yaml.specs.declared.tree.Item.{Item}

counted : (is : List Item) → count_items (items_view is) ≡ length is
counted [] = refl
counted (i ∷ is) = ap suc (counted is)

abbrev grouped : List SaidAxis → List ℕ → ℕ → Result SaidAxes RunFileFault
grouped xs ns n = Ok (record { axes = xs; lengths = ns ++ n ∷ [] })

-- the axes of a list, and how many there are
pub listed : (key : ℕ) (a : SaidAxes) (is : List Item) (xs : List SaidAxis) (n : ℕ) (ns : List ℕ) → with_axes key a.axes (items_view is) ≡ Ok xs → n ≡ length is
    → ns ≡ a.lengths ++ n ∷ [] → with_list key a (items_view is) ≡ Ok (record { axes = xs; lengths = ns })
unfolding with_list
listed key a is xs n ns said many pushed =
    ap (λ r. and_then r (λ ys. grouped ys a.lengths (count_items (items_view is)))) said ∙ (ap (grouped xs a.lengths) (counted is ∙ sym many)
    ∙ ap (λ (ms : List ℕ). Ok (record { axes = xs; lengths = ms })) (sym pushed))
