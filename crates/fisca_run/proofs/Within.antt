-- The slots of accepted run files move variables of the rule set, and have wheels of which there are 16.
use Rattle.std.proofs.Common.{◌≡◌, codes, ℕ, zero, suc, ◌+◌, ◌<◌, ◌≤◌, List, [], ◌∷◌, ◌++◌, length, Bool, true, false, ◌==◌, ◌||◌, Option, Some, None, slice_get, refl, sym, ap, subst, ◌∙◌, arith, if◌then◌else◌}
use Rattle.std.specs.Prelude.{⊤, Ok, nat_lt, sum}
use Rattle.std.specs.List.{list_any}
use Rattle.std.specs.Option.{option_or, unwrap_or}
use Rattle.std.proofs.lemmas.Bool.{ltb-true}
use Rattle.fisca_columns.specs.Steps.Calc.{default_in}
use Rattle.fisca_columns.specs.Faults.{fault_at}
use Rattle.fisca_columns.specs.declared.fault.RunFileKind.TheVariants as kind
use Rattle.fisca_grid.proofs.Groups.{few_axes, few_groups}
use Rattle.fisca_grid.specs.Axes.{first_axis_fault}
use Rattle.fisca_grid.specs.Grid.{axes_fault, grid_fault, groups_of}
use Rattle.fisca_grid.specs.declared.axes.AxesFault.{AxesFault}
use Rattle.fisca_grid.specs.declared.axes.AxesFault.TheVariants.{BadIndex, NoAxes}
use Rattle.fisca_grid.specs.declared.axes.AxisSpec.{AxisSpec}
use Rattle.fisca_inputs.proofs.Typed.{then_ok}
use Rattle.fisca_inputs.specs.Steps.Inputs.{is_marked}
use Rattle.fisca_inputs.specs.declared.given.Given.{Given}
use Rattle.fisca_groups.specs.Lookup.{count_at}
use Rattle.fisca_groups.specs.declared.entity_members.EntityMembers.{EntityMembers}
use Rattle.fisca_num.specs.Number.{zero_number}
use Rattle.fisca_run_file.specs.Steps.Grids.{specs_of}
use Rattle.fisca_run_file.specs.Moved.{with_moved}
use Rattle.fisca_run_file.specs.Steps.Moved.{moved_at, moved_by, moved_of, moved_or_fault, period_moved, variable_moved}
use Rattle.fisca_run_file.specs.RunFiles.{RunFile, run_file_of}
use Rattle.fisca_run_file.specs.SaidAxes.{SaidAxis}
use Rattle.fisca_situations.specs.Steps.Reading.{variable_of}
use Rattle.fisca_run.proofs.Files.{IsMovement, axes_line, read_from}
use Rattle.fisca_run.proofs.Normal.{named}
use Rattle.fisca_run.proofs.OfFiles.{AllBelow, below_all, wheel_is}
use Rattle.fisca_run.proofs.Positions.{grid_parts, length_specs}
use Rattle.fisca_run.proofs.Said.{said_whole}
use Rattle.fisca_run_file.specs.Marks.{AreWithin}
use Rattle.fisca_run_file.specs.Steps.Slots.{slots_of, slots_with}
use Rattle.fisca_slots.specs.Turning.{wheels_from}
use Rattle.fisca_situations.specs.Slots.{Slot}
use Rattle.fisca_situations.specs.Steps.Slots.{slot_by, slot_of}
use Rattle.fisca_symbols.specs.declared.tables.Tables.{Tables}
use Rattle.fisca_symbols.specs.declared.variable.Variable.{Variable}
use Rattle.fisca_time.specs.Period.{Span}
use Rattle.fisca_model.specs.Tables.{otherwise}
use Rattle.fisca_yaml.specs.Steps.Find.{get}
use Rattle.fisca_yaml.specs.Node.{Node, null}

some_inside : {X : Type 0} (xs : List X) (i : ℕ) (x : X) → slice_get xs i ≡ Some x → i < length xs
some_inside [] zero x h = cc
some_inside [] (suc i) x h = cc
some_inside (y ∷ ys) zero x h = omega arith
some_inside (y ∷ ys) (suc i) x h = omega (arith, some_inside ys i x h)

-- Variables

module _ (c : Tables) where
  abbrev AreInside : List Given → Type 0
  AreInside [] = ⊤
  AreInside (g ∷ gs) = (g.variable < length c.variables) × AreInside gs

  inside_behind : (gs : List Given) (g : Given) → AreInside gs → g.variable < length c.variables → AreInside (gs ++ g ∷ [])
  inside_behind [] g all one = (one, tt)
  inside_behind (h ∷ gs) g all one = (all.0, inside_behind gs g all.1 one)

  at_period : (a : SaidAxis) (x : ℕ × Variable) (o : Option Span) (g : Given) → x.0 < length c.variables → moved_or_fault a x.0 (period_moved x.1 o) ≡ Ok g
      → g.variable < length c.variables
  at_period a x o g less h = by (period_moved x.1 o) h
    where
      by : (q : Option Span) → moved_or_fault a x.0 q ≡ Ok g → g.variable < length c.variables
      by None e = cc
      by (Some p) e = let same : moved_at a x.0 p ≡ g = cc in subst (λ (g : Given). g.variable < length c.variables) same less

  one_inside : (ms : List EntityMembers) (default : Option Span) (a : SaidAxis) (o : Option (ℕ × Variable)) (g : Given) → variable_moved c a.name ≡ o
      → moved_of ms default a o ≡ Ok g → g.variable < length c.variables
  one_inside ms default a None g is h = cc
  one_inside ms default a (Some x) g is h = by (nat_lt a.index (count_at ms x.1.entity)) h
    where
      by : (b : Bool) → (if b then moved_or_fault a x.0 (period_moved x.1 (otherwise a.period default)) else fault_at a.line (kind.Axes BadIndex)) ≡ Ok g
          → g.variable < length c.variables
      by true e = at_period a x (otherwise a.period default) g (some_inside c.variables x.0 x.1 (named c (variable_of c a.name) x is)) e
      by false e = cc

  moved_inside : (ms : List EntityMembers) (default : Option Span) (gs : List Given) (axes : List SaidAxis) (moved : List Given) → AreInside gs
      → with_moved c ms default gs axes ≡ Ok moved → AreInside moved
  moved_inside ms default gs [] moved all h = let same : gs ≡ moved = cc in subst AreInside same all
  moved_inside ms default gs (a ∷ axes) moved all h =
      let one = then_ok (moved_by c ms default a) (λ g. with_moved c ms default (gs ++ g ∷ []) axes) moved h in
      moved_inside ms default (gs ++ one.0 ∷ []) axes moved (inside_behind gs one.0 all (one_inside ms default a (variable_moved c a.name) one.0 refl one.1)) one.2

-- Wheels

first_part : (o p : Option AxesFault) → option_or o p ≡ None → p ≡ None
first_part None p h = h
first_part (Some f) p h = cc

not_empty : (a b : Bool) (o : Option AxesFault) → (if a || b then Some NoAxes else o) ≡ None → (b ≡ false) × (o ≡ None)
not_empty true b o h = cc
not_empty false true o h = cc
not_empty false false o h = (refl, h)

length_groups : {X : Type 0} (xs : List X) (ns : List ℕ) → length (groups_of xs ns) ≡ length ns
length_groups xs [] = refl
length_groups xs (n ∷ ns) = ap suc (length_groups _ ns)

few_wheels : (axes : List AxisSpec) (lengths : List ℕ) → axes_fault axes lengths ≡ None → sum lengths ≡ length axes → length (groups_of axes lengths) ≤ 16
few_wheels axes lengths right all =
    let parts =
    not_empty (length lengths == 0) (list_any (λ size. size == 0) lengths) (option_or (first_axis_fault axes) (grid_fault (length axes) (groups_of axes lengths))) right in
    let grid = first_part (first_axis_fault axes) (grid_fault (length axes) (groups_of axes lengths)) parts.1 in
    omega (arith, length_groups axes lengths, few_groups lengths parts.0, all, few_axes (length axes) (groups_of axes lengths) grid)

-- Slots

module _ (c : Tables) (marks : List Bool) where
  variable_is : (wheel : ℕ) (g : Given) → (slot_of c marks wheel g).variable ≡ g.variable
  variable_is wheel g = by (is_marked marks g.variable) (slice_get c.variables g.variable)
    where
      by : (b : Bool) (o : Option Variable) → (slot_by b o wheel g).variable ≡ g.variable
      by true None = refl
      by false None = refl
      by true (Some x) = refl
      by false (Some x) = refl

  within : (most : ℕ) (ws : List ℕ) (gs : List Given) → most ≤ 16 → AllBelow most ws → AreInside c gs
      → AreWithin (length c.variables) (slots_with c marks ws gs)
  within most [] gs few low all zero s at = cc
  within most [] gs few low all (suc i) s at = cc
  within most (w ∷ ws) [] few low all zero s at = cc
  within most (w ∷ ws) [] few low all (suc i) s at = cc
  within most (w ∷ ws) (g ∷ gs) few low all zero s at =
      let is : slot_of c marks w g ≡ s = cc in
      let below : w < most = ltb-true w most low.0 in (
        subst (λ x. x < length c.variables) (sym (variable_is w g) ∙ ap (λ (t : Slot). t.variable) is) all.0,
        subst (λ x. x < 16) (sym (wheel_is c marks w g zero_number) ∙ ap (λ (t : Slot). t.wheel) is) (omega (arith, below, few)),
      )
  within most (w ∷ ws) (g ∷ gs) few low all (suc i) s at = within most ws gs few low.1 all.1 i s at

-- Files

module _ (c : Tables) (n : Node) (f : RunFile) where
  inside_file : IsMovement c n f.members f.given f.groups f.moved → AreInside c f.moved
  inside_file is = moved_inside c f.members (default_in n) [] is.said.axes f.moved tt is.moves

  few_file : IsMovement c n f.members f.given f.groups f.moved → length f.groups ≤ 16
  few_file is =
      let whole = said_whole (axes_line n) (unwrap_or (get (codes "axes") n) null) is.said is.says in
      let grid = grid_parts (axes_line n) is.said f.groups is.grid in
      subst (λ (groups : List (List AxisSpec)). length groups ≤ 16) grid.1
      (few_wheels (specs_of is.said.axes) is.said.lengths grid.0 (whole.lengths ∙ sym (length_specs is.said.axes)))

  pub all_within : run_file_of c n ≡ Ok f → AreWithin (length c.variables) (slots_of c f)
  all_within read =
      let is = (read_from c n f read).movement in
      within c f.neutral (length f.groups) (wheels_from 0 f.groups) f.moved (few_file is) (below_all (length f.groups) 0 f.groups (omega arith)) (inside_file is)
