-- What is left of groups.
use Rattle.std.proofs.Common.{◌≡◌, ℕ, List, [], ◌∷◌, map, length, sum, take, drop, arith, length-take, refl, ap, ap₂, ◌∙◌}
use Rattle.std.specs.Option.{option_or}
use Rattle.std.proofs.lemmas.List.{drop-map, take-map}
use Rattle.fisca_grid.proofs.Groups.{left_grouped, sum_first}
use Rattle.fisca_grid.specs.Grid.{groups_of}
use Rattle.fisca_run_file.specs.Steps.Grids.{differing_line, first_differing}
use Rattle.fisca_run_file.specs.Views.{said_axis, said_list}
use Rattle.fisca_run_file.specs.declared.said_axis.SaidAxis.{SaidAxis}

-- the first group and those behind it
pub left_differing : (rest : List SaidAxis) (n : ℕ) (later : List ℕ)
    → first_differing (groups_of (said_list rest) (n ∷ later)) ≡ option_or (differing_line (said_list (take n rest))) (first_differing (groups_of (said_list (drop n rest)) later))
left_differing rest n later =
    ap₂ option_or (ap differing_line (take-map said_axis n rest)) (ap (λ xs. first_differing (groups_of xs later)) (drop-map said_axis n rest))

-- what is in groups of these lengths has just these
lengths_of_groups : {X : Type 0} (xs : List X) (ns : List ℕ) → sum ns ≡ length xs → map length (groups_of xs ns) ≡ ns
lengths_of_groups xs [] all = refl
lengths_of_groups xs (n ∷ ns) all =
    let first : length (take n xs) ≡ n = omega (arith, length-take n xs, sum_first n ns, all) in
    ap₂ (λ m ms. m ∷ ms) first (lengths_of_groups (drop n xs) ns (left_grouped xs n ns all))

pub grouped_by : {X : Type 0} (groups : List (List X)) (xs : List X) (ns : List ℕ) → groups ≡ groups_of xs ns → sum ns ≡ length xs → map length groups ≡ ns
grouped_by groups xs ns is all = ap (map length) is ∙ lengths_of_groups xs ns all
