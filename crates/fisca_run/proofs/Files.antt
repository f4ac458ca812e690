-- What a run file keeps of the tree that says it.
use Rattle.std.proofs.Common.{◌≡◌, ℕ, List, [], ◌∷◌, ◌++◌, Bool, true, false, codes, refl, sym, ap, ap₂, subst, ◌∙◌, map as list_map, if◌then◌else◌}
use Rattle.std.specs.Prelude.{Result, Ok, Err}
use Rattle.std.specs.Option.{unwrap_or}
use Rattle.fisca_columns.specs.Steps.Calc.{columns_in, default_in}
use Rattle.fisca_columns.specs.Faults.{fault_at, told}
use Rattle.fisca_columns.specs.declared.fault.RunFileKind.TheVariants as kind
use Rattle.fisca_grid.specs.declared.axes.AxesFault.TheVariants.{AxisOverlap}
use Rattle.fisca_grid.specs.declared.axes.AxisSpec.{AxisSpec}
use Rattle.fisca_inputs.proofs.Typed.{then_ok}
use Rattle.fisca_inputs.specs.Entries.{Entries}
use Rattle.fisca_inputs.specs.Inputs.{inputs_of}
use Rattle.fisca_inputs.specs.Rules.{rule_of}
use Rattle.fisca_inputs.specs.declared.fault.SituationFault.{SituationFault}
use Rattle.fisca_inputs.specs.declared.given.Given.{Given}
use Rattle.fisca_model.specs.declared.key.Key.{Key}
use Rattle.fisca_groups.specs.Lookup.{counts_of}
use Rattle.fisca_groups.specs.declared.entity_members.EntityMembers.{EntityMembers}
use Rattle.fisca_num.specs.Results.{and_then}
use Rattle.fisca_rows.specs.Steps.Conditions.{conditions_in}
use Rattle.fisca_run_file.specs.Steps.Grids.{grid_of}
use Rattle.fisca_run_file.specs.Keys.{file_checked}
use Rattle.fisca_run_file.specs.Moved.{apart_from, shared_or_fault, sharing_checked, with_moved}
use Rattle.fisca_situations.specs.AllAxes.{is_overlap, put_all_in}
use Rattle.fisca_run_file.specs.Steps.Neutral.{marks_in}
use Rattle.fisca_run_file.specs.RunFiles.{Movement, RunFile, BaseSituation, asked_of, moved_in, movement_at, movement_in, movement_of, reading_in, run_file_by, run_file_of, base_situation_in, base_situation_of}
use Rattle.fisca_run_file.specs.SaidAxes.{SaidAxes}
use Rattle.fisca_run_file.specs.Steps.SaidAxes.{axes_said}
use Rattle.fisca_situations.specs.Steps.Situations.{reading_of}
use Rattle.fisca_situations.specs.declared.reading.Reading.{Reading}
use Rattle.fisca_symbols.specs.declared.tables.Tables.{Tables}
use Rattle.fisca_yaml.specs.Find.{line_at}
use Rattle.fisca_yaml.specs.Steps.Find.{get}
use Rattle.fisca_yaml.specs.Node.{Node, null}

told_ok : {X : Type 0} (r : Result X SituationFault) (x : X) → told r ≡ Ok x → r ≡ Ok x
told_ok (Ok y) x h = let same : y ≡ x = cc in ap Ok same
told_ok (Err f) x h = cc

-- The situation

-- the members of an input, and the inputs as they are given
abbrev input_read : Tables → Node → Result Reading SituationFault
input_read c n = reading_of c (default_in n) (line_at (codes "input") 1 n) (unwrap_or (get (codes "input") n) null)

-- of which reading a base_situation is
pub record IsBaseSituation (c : Tables) (n : Node) (s : BaseSituation) : Type 0 where
  pub reading : Reading
  pub read : input_read c n ≡ Ok reading
  pub members : s.members ≡ reading.members
  pub given : s.given ≡ reading.given

base_situation_of_read : (c : Tables) (n : Node) (marks : List Bool) (r : Reading) (s : BaseSituation) → input_read c n ≡ Ok r → base_situation_of c marks r ≡ Ok s
    → IsBaseSituation c n s
unfolding base_situation_of
base_situation_of_read c n marks r s is h =
    let shared = told (inputs_of (list_map rule_of c.variables) (counts_of r.members) r.given) in
    let made = then_ok shared (λ _. Ok (record { members = r.members; given = r.given; neutral = marks })) s h in
    let same : record { members = r.members; given = r.given; neutral = marks } ≡ s = cc in
    record {
      reading = r;
      read = is;
      members = ap (λ (x : BaseSituation). x.members) (sym same);
      given = ap (λ (x : BaseSituation). x.given) (sym same);
    }

base_situation_from : (c : Tables) (n : Node) (s : BaseSituation) → base_situation_in c n ≡ Ok s → IsBaseSituation c n s
unfolding base_situation_in
base_situation_from c n s h =
    let marked = then_ok (marks_in c n) (λ marks. and_then (reading_in c n) (base_situation_of c marks)) s h in
    let read = then_ok (reading_in c n) (base_situation_of c marked.0) s marked.2 in
    base_situation_of_read c n marked.0 read.0 s (told_ok (input_read c n) read.0 read.1) read.2

-- The axes

-- the line that tells of the axes all together
abbrev pub axes_line : Node → ℕ
axes_line n = line_at (codes "axes") 1 n

-- what the axes of a file are: a grid, and the inputs that they move, which are apart and can be shared
pub record IsMovement (c : Tables) (n : Node) (ms : List EntityMembers) (given : List Given) (groups : List (List AxisSpec)) (moved : List Given) : Type 0 where
  pub said : SaidAxes
  pub says : axes_said (axes_line n) (unwrap_or (get (codes "axes") n) null) ≡ Ok said
  pub grid : grid_of (axes_line n) said ≡ Ok groups
  pub moves : with_moved c ms (default_in n) [] said.axes ≡ Ok moved
  pub apart : apart_from given [] moved ≡ Ok []
  pub shares : sharing_checked c (axes_line n) ms given moved ≡ Ok []

none_apart : (given before gs : List Given) (ks : List Key) → apart_from given before gs ≡ Ok ks → apart_from given before gs ≡ Ok []
none_apart given before [] ks h = refl
none_apart given before (g ∷ gs) ks h = by (is_overlap given before g) h (none_apart given (before ++ g ∷ []) gs ks)
  where
    by : (b : Bool) → (if b then fault_at g.line (kind.Axes AxisOverlap) else apart_from given (before ++ g ∷ []) gs) ≡ Ok ks
        → (apart_from given (before ++ g ∷ []) gs ≡ Ok ks → apart_from given (before ++ g ∷ []) gs ≡ Ok [])
        → (if b then fault_at g.line (kind.Axes AxisOverlap) else apart_from given (before ++ g ∷ []) gs) ≡ Ok []
    by true e later = cc
    by false e later = later e

none_shared : (key : ℕ) (r : Result Entries SituationFault) (ks : List Key) → shared_or_fault key r ≡ Ok ks → shared_or_fault key r ≡ Ok []
none_shared key (Ok es) ks h = refl
none_shared key (Err f) ks h = cc

moved_from : (c : Tables) (n : Node) (s : BaseSituation) (a : SaidAxes) (groups : List (List AxisSpec)) (moved : List Given)
    → axes_said (axes_line n) (unwrap_or (get (codes "axes") n) null) ≡ Ok a → grid_of (axes_line n) a ≡ Ok groups
    → moved_in c (axes_line n) (default_in n) s a.axes ≡ Ok moved → IsMovement c n s.members s.given groups moved
unfolding moved_in
moved_from c n s a groups moved said grid h =
    let key = axes_line n in
    let ms = s.members in
    let all = then_ok (with_moved c ms (default_in n) [] a.axes)
    (λ gs. and_then (apart_from s.given [] gs) (λ _. and_then (sharing_checked c key ms s.given gs) (λ _. Ok gs))) moved h in
    let apart = then_ok (apart_from s.given [] all.0) (λ _. and_then (sharing_checked c key ms s.given all.0) (λ _. Ok all.0)) moved all.2 in
    let shared = then_ok (sharing_checked c key ms s.given all.0) (λ _. Ok all.0) moved apart.2 in
    let same : all.0 ≡ moved = cc in
    record {
      said = a;
      says = said;
      grid = grid;
      moves = all.1 ∙ ap Ok same;
      apart = ap (apart_from s.given []) (sym same) ∙ none_apart s.given [] all.0 apart.0 apart.1;
      shares = ap (sharing_checked c key ms s.given) (sym same)
          ∙ none_shared key (inputs_of (list_map rule_of c.variables) (counts_of ms) (put_all_in s.given all.0)) shared.0 shared.1;
    }

movement_from_said : (c : Tables) (n : Node) (s : BaseSituation) (a : SaidAxes) (m : Movement)
    → axes_said (axes_line n) (unwrap_or (get (codes "axes") n) null) ≡ Ok a
    → movement_of c (axes_line n) (default_in n) s a ≡ Ok m → IsMovement c n s.members s.given m.groups m.moved
unfolding movement_of
movement_from_said c n s a m said h =
    let key = axes_line n in
    let grid =
    then_ok (grid_of key a) (λ groups. and_then (moved_in c key (default_in n) s a.axes) (λ moved. Ok (record { groups = groups; moved = moved }))) m h in
    let moving = then_ok (moved_in c key (default_in n) s a.axes) (λ moved. Ok (record { groups = grid.0; moved = moved })) m grid.2 in
    let same : record { groups = grid.0; moved = moving.0 } ≡ m = cc in
    subst (λ (x : Movement). IsMovement c n s.members s.given x.groups x.moved) same (moved_from c n s a grid.0 moving.0 said grid.1 moving.1)

movement_from : (c : Tables) (n : Node) (s : BaseSituation) (m : Movement) → movement_in c n s ≡ Ok m → IsMovement c n s.members s.given m.groups m.moved
unfolding movement_at
movement_from c n s m h =
    let said = then_ok (axes_said (axes_line n) (unwrap_or (get (codes "axes") n) null)) (movement_of c (axes_line n) (default_in n) s) m h in
    movement_from_said c n s said.0 m said.1 said.2

-- The file

-- the reading that a run file is of, and what its axes are
pub record IsRead (c : Tables) (n : Node) (f : RunFile) : Type 0 where
  pub reading : Reading
  pub read : input_read c n ≡ Ok reading
  pub members : f.members ≡ reading.members
  pub given : f.given ≡ reading.given
  pub movement : IsMovement c n f.members f.given f.groups f.moved

-- a file has the parts of its base_situation and of its movement
record IsAskedOf (s : BaseSituation) (m : Movement) (f : RunFile) : Type 0 where
  members : f.members ≡ s.members
  given : f.given ≡ s.given
  groups : f.groups ≡ m.groups
  moved : f.moved ≡ m.moved

asked_from : (c : Tables) (n : Node) (s : BaseSituation) (m : Movement) (f : RunFile) → asked_of c n s m ≡ Ok f → IsAskedOf s m f
unfolding asked_of
asked_from c n s m f h =
    let columns = then_ok (columns_in c s.members n) (λ columns. and_then (conditions_in c s.members n) (λ conditions. Ok (record {
      members = s.members;
      given = s.given;
      neutral = s.neutral;
      groups = m.groups;
      moved = m.moved;
      columns = columns;
      conditions = conditions;
    }))) f h in
    let conditions = then_ok (conditions_in c s.members n) (λ conditions. Ok (record {
      members = s.members;
      given = s.given;
      neutral = s.neutral;
      groups = m.groups;
      moved = m.moved;
      columns = columns.0;
      conditions = conditions;
    })) f columns.2 in
    let same : ◌≡◌ {A = RunFile} (record {
      members = s.members;
      given = s.given;
      neutral = s.neutral;
      groups = m.groups;
      moved = m.moved;
      columns = columns.0;
      conditions = conditions.0;
    }) f = cc in
    subst (IsAskedOf s m) same (record { members = refl; given = refl; groups = refl; moved = refl })

moved_by_file : (c : Tables) (n : Node) (s : BaseSituation) (m : Movement) (f : RunFile) → IsAskedOf s m f
    → IsMovement c n s.members s.given m.groups m.moved
    → IsMovement c n f.members f.given f.groups f.moved
moved_by_file c n s m f parts is =
    let members = parts.members in
    record {
      said = is.said;
      says = is.says;
      grid = is.grid ∙ ap Ok (sym parts.groups);
      moves = ap (λ ms. with_moved c ms (default_in n) [] is.said.axes) members ∙ (is.moves ∙ ap Ok (sym parts.moved));
      apart = ap₂ (λ gs hs. apart_from gs [] hs) parts.given parts.moved ∙ is.apart;
      shares =
          ap (λ ms. sharing_checked c (axes_line n) ms f.given f.moved) members ∙
          (ap₂ (sharing_checked c (axes_line n) s.members) parts.given parts.moved ∙ is.shares);
    }

pub read_from : (c : Tables) (n : Node) (f : RunFile) → run_file_of c n ≡ Ok f → IsRead c n f
unfolding run_file_of run_file_by
read_from c n f h =
    let checked = then_ok (file_checked n) (λ _. and_then (base_situation_in c n) (run_file_by c n)) f h in
    let set = then_ok (base_situation_in c n) (run_file_by c n) f checked.2 in
    let moving = then_ok (movement_in c n set.0) (asked_of c n set.0) f set.2 in
    let parts = asked_from c n set.0 moving.0 f moving.2 in
    let base_situation = base_situation_from c n set.0 set.1 in
    record {
      reading = base_situation.reading;
      read = base_situation.read;
      members = parts.members ∙ base_situation.members;
      given = parts.given ∙ base_situation.given;
      movement = moved_by_file c n set.0 moving.0 f parts (movement_from c n set.0 moving.0 moving.1);
    }
