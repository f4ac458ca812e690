-- The places of groups of axes, one after another.
use Rattle.std.proofs.Common.{◌≡◌, ℕ, zero, suc, ◌+◌, ◌≤◌, List, [], ◌∷◌, ◌++◌, map, length, drop, add-one, refl, ap, ap₂, arith}
use Rattle.fisca_grid.specs.declared.axes.AxisSpec.{AxisSpec}
use Rattle.fisca_inputs.specs.declared.given.Given.{Given}
use Rattle.fisca_run_file.specs.Groups.{so_many}
use Rattle.fisca_run_file.specs.Steps.Groups.{wheels_by}
use Rattle.fisca_run_file.specs.Steps.Slots.{slots_with}
use Rattle.fisca_slots.specs.Turning.{wheels_from}
use Rattle.fisca_symbols.specs.declared.tables.Tables.{Tables}
use Rattle.std.specs.Prelude.{Bool}

once_later : (n wheel : ℕ) → so_many (suc n) wheel ≡ so_many n wheel ++ wheel ∷ []
once_later zero wheel = refl
once_later (suc n) wheel = ap (λ ws. wheel ∷ ws) (once_later n wheel)

pub once_more : (n wheel : ℕ) → so_many (n + 1) wheel ≡ so_many n wheel ++ wheel ∷ []
once_more n wheel = rw add-one (once_later n wheel)

-- each axis of a group has its place
pub wheels_are : (wheel : ℕ) (groups : List (List AxisSpec)) → wheels_by wheel (map length groups) ≡ wheels_from wheel groups
wheels_are wheel [] = refl
wheels_are wheel (group ∷ groups) = ap₂ (λ xs ys. xs ++ ys) (each group) (wheels_are (suc wheel) groups)
  where
    each : (axes : List AxisSpec) → so_many (length axes) wheel ≡ map (λ axis. wheel) axes
    each [] = refl
    each (axis ∷ axes) = ap (λ ws. wheel ∷ ws) (each axes)

-- past the last input there is no slot
none_moved : (c : Tables) (neutral : List Bool) (wheels : List ℕ) → slots_with c neutral wheels [] ≡ []
none_moved c neutral [] = refl
none_moved c neutral (wheel ∷ wheels) = refl

pub slots_out : (c : Tables) (neutral : List Bool) (wheels : List ℕ) (gs : List Given) (i : ℕ) → length gs ≤ i
    → slots_with c neutral (drop i wheels) (drop i gs) ≡ []
slots_out c neutral wheels [] zero past = none_moved c neutral wheels
slots_out c neutral wheels [] (suc i) past = none_moved c neutral (drop (suc i) wheels)
slots_out c neutral wheels (g ∷ gs) zero past = absurd (omega (arith, past))
slots_out c neutral [] (g ∷ gs) (suc i) past = refl
slots_out c neutral (wheel ∷ wheels) (g ∷ gs) (suc i) past = slots_out c neutral wheels gs i (omega (arith, past))
