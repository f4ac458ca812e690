-- Axes that are groups of their own, and a condition on one of them.
use Rattle.std.proofs.Common.{◌≡◌, ℕ, ◌+◌, ◌<◌, List, [], ◌∷◌, length, map, sum, Option, Some, None, option_map, option_and_then, Ok, refl, sym, ap, ◌∙◌, arith}
use Rattle.std.proofs.lemmas.List.{length-map}
use Rattle.std.specs.Option.{option_or}
use Rattle.fisca_grid.specs.Condition.{condition_of}
use Rattle.fisca_grid.specs.Grid.{groups_of, axes_in}
use Rattle.fisca_grid.specs.NamedAxes.{specs_of, filter_on, filter_from}
use Rattle.fisca_grid.specs.Steps.NamedAxes.{name_of, own_groups}
use Rattle.fisca_grid.specs.Words.{axis_of}
use Rattle.fisca_grid.specs.declared.axes.AxisSpec.{AxisSpec}
use Rattle.fisca_grid.specs.declared.condition.AxisCondition.{AxisCondition}
use Rattle.fisca_grid.specs.declared.condition.Filter.{Filter}
use Rattle.fisca_grid.proofs.Groups.{sum_first}
use Rattle.fisca_commands.specs.AxesRun.{required_filter, optional_filter}

pub own_sum : (specs : List AxisSpec) → sum (own_groups specs) ≡ length specs
own_sum [] = refl
own_sum (axis ∷ specs) = omega (arith, sum_first 1 (own_groups specs), own_sum specs)

own_count : (specs : List AxisSpec) → axes_in (groups_of specs (own_groups specs)) ≡ length specs
own_count [] = refl
own_count (axis ∷ specs) = omega (arith, own_count specs)

described : (o : Option (List ℕ × AxisSpec)) (p : Option (List AxisSpec)) (specs : List AxisSpec) (n : ℕ) → ((rest : List AxisSpec) → p ≡ Some rest → length rest ≡ n) → option_and_then (λ named. option_map (λ specs. named.1 ∷ specs) p) o ≡ Some specs → length specs ≡ n + 1
described None p specs n later e = absurd (cc)
described (Some named) None specs n later e = absurd (cc)
described (Some named) (Some rest) specs n later e =
    let same : named.1 ∷ rest ≡ specs = cc in
    omega (arith, ap length same, later rest refl)

specs_length : (words : List (List ℕ)) (specs : List AxisSpec) → specs_of words ≡ Some specs → length specs ≡ length words
specs_length [] specs e = let none : [] ≡ specs = cc in ap length (sym none)
specs_length (word ∷ words) specs e = omega (arith, described (axis_of word) (specs_of words) specs (length words) (specs_length words) e)

one_inside : (from : ℕ) (o : Option AxisCondition) (p : Option Filter) (filter : Filter) (bound : ℕ) → option_or (option_map (filter_on from) o) p ≡ Some filter → from < bound → (p ≡ Some filter → filter.axis < bound) → filter.axis < bound
one_inside from None p filter bound e less later = later e
one_inside from (Some condition) p filter bound e less later =
    let same : filter_on from condition ≡ filter = cc in
    omega (arith, ap (λ (f : Filter). f.axis) same)

filter_inside : (from : ℕ) (names : List (List ℕ)) (text : List ℕ) (filter : Filter) → filter_from from names text ≡ Some filter → filter.axis < from + length names
filter_inside from [] text filter e = absurd (cc)
filter_inside from (name ∷ names) text filter e =
    one_inside from (condition_of name text) (filter_from (from + 1) names text) filter (from + length (name ∷ names)) e (omega arith)
    (λ later. omega (arith, filter_inside (from + 1) names text filter later))

required : (o : Option Filter) (filter : Filter) → Ok (Some filter) ≡ required_filter o → o ≡ Some filter
required None filter e = absurd (cc)
required (Some found) filter e = cc

keep_inside : (names : List (List ℕ)) (keep : Option (List ℕ)) (filter : Filter) → Ok (Some filter) ≡ optional_filter names keep → filter.axis < length names
keep_inside names None filter e = absurd (cc)
keep_inside names (Some text) filter e = omega (arith, filter_inside 0 names text filter (required (filter_from 0 names text) filter e))

-- a condition is on one of the axes
pub inside : (words : List (List ℕ)) (specs : List AxisSpec) (keep : Option (List ℕ)) (found : Option Filter) (filter : Filter) → specs_of words ≡ Some specs → Ok found ≡ optional_filter (map name_of words) keep → found ≡ Some filter → filter.axis < axes_in (groups_of specs (own_groups specs))
inside words specs keep found filter e read is =
    let there : filter.axis < length (map name_of words) = keep_inside (map name_of words) keep filter (ap Ok (sym is) ∙ read) in
    omega (arith, there, length-map words name_of, specs_length words specs e, own_count specs)
