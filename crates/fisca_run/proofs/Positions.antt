-- Each position of a run file has a situation.
use Rattle.std.proofs.Common.{◌≡◌, ℕ, suc, ◌+◌, List, [], ◌∷◌, ◌++◌, map, length, Bool, true, false, Option, Some, None, codes, slice_get, refl, sym, ap, subst, ◌∙◌, arith, length-append, if◌then◌else◌}
use Rattle.std.specs.Prelude.{⊤, Result, Ok, Err, nat_lt, option_map}
use Rattle.std.specs.List.{list_any}
use Rattle.std.specs.Option.{unwrap_or}
use Rattle.std.proofs.lemmas.Bool.{or_parts}
use Rattle.fisca_columns.specs.Steps.Calc.{default_in}
use Rattle.fisca_columns.specs.Faults.{fault_at}
use Rattle.fisca_columns.specs.declared.fault.RunFileKind.TheVariants as kind
use Rattle.fisca_grid.specs.AxesRow.{values_of}
use Rattle.fisca_grid.specs.Grid.{axes_at, axes_fault, groups_of}
use Rattle.fisca_grid.specs.declared.axes.AxesFault.{AxesFault}
use Rattle.fisca_grid.specs.declared.axes.AxesFault.TheVariants.{AxisOverlap, BadIndex}
use Rattle.fisca_grid.specs.declared.axes.AxisSpec.{AxisSpec}
use Rattle.fisca_inputs.proofs.Typed.{then_ok}
use Rattle.fisca_inputs.specs.Entries.{Entries, same_key}
use Rattle.fisca_inputs.specs.Faults.{at_line}
use Rattle.fisca_inputs.specs.Inputs.{and_given, inputs_of, key_given, without_marked}
use Rattle.fisca_inputs.specs.Rules.{Rule, is_accepted, rule_of}
use Rattle.fisca_model.specs.contracts.key.KeyEq.TheImpl.Laws.{laws-law}
use Rattle.fisca_inputs.specs.declared.fault.SituationFault.{SituationFault}
use Rattle.fisca_inputs.specs.declared.fault.SituationKind.TheVariants as situation
use Rattle.fisca_inputs.specs.declared.given.Given.{Given}
use Rattle.fisca_model.specs.declared.key.Key.{Key}
use Rattle.fisca_model.specs.Periods.{is_eternity, key_period}
use Rattle.fisca_groups.specs.Lookup.{count_at, counts_of}
use Rattle.fisca_groups.specs.declared.entity_members.EntityMembers.{EntityMembers}
use Rattle.fisca_num.specs.Number.{Number, trunc_of}
use Rattle.fisca_num.specs.Results.{and_then}
use Rattle.fisca_slots.proofs.Both.{Moving, here}
use Rattle.fisca_run.proofs.Files.{IsMovement, axes_line, read_from}
use Rattle.fisca_slots.proofs.Parts.{IsSound, moved_sound}
use Rattle.fisca_slots.proofs.Placed.{AllOf, NoneOverlaps}
use Rattle.fisca_run.proofs.Reading.{IsKept, all_kept}
use Rattle.fisca_run.proofs.Said.{AreSaid, HasPeriod, default_read, said_whole}
use Rattle.fisca_slots.proofs.Shared.{Each, given_of}
use Rattle.fisca_run.proofs.Situated.{AreGiven, inputs_there}
use Rattle.fisca_slots.proofs.Steps.{AllPart, CanPart, values_at, whole_parts}
use Rattle.fisca_run_file.specs.Steps.Grids.{grid_of, grid_unless, specs_of}
use Rattle.fisca_run_file.specs.Moved.{apart_from, shared_or_fault, sharing_checked, with_moved}
use Rattle.fisca_run_file.specs.Steps.Moved.{moved_at as moved_input, moved_by, moved_of, moved_or_fault, period_moved, variable_moved}
use Rattle.fisca_situations.specs.AllAxes.{is_overlap, put_all_in}
use Rattle.fisca_run_file.specs.Positions.{moved_at, situation_with}
use Rattle.fisca_run_file.specs.Steps.Positions.{cut_by, with_values}
use Rattle.fisca_situations.specs.Cuts.{size_whole}
use Rattle.fisca_situations.specs.Steps.Cuts.{cut_for}
use Rattle.fisca_run_file.specs.RunFiles.{RunFile, run_file_of}
use Rattle.fisca_run_file.specs.SaidAxes.{SaidAxes, SaidAxis}
use Rattle.fisca_situations.specs.Situations.{Situation}
use Rattle.fisca_symbols.specs.declared.tables.Tables.{Tables}
use Rattle.fisca_symbols.specs.declared.variable.DeclaredType.{DeclaredType}
use Rattle.fisca_symbols.specs.declared.variable.DeclaredType.TheVariants as type
use Rattle.fisca_symbols.specs.declared.variable.Variable.{Variable}
use Rattle.fisca_time.specs.Period.{Span, eternity, is_period}
use Rattle.fisca_time.specs.declared.unit.Unit.{Unit}
use Rattle.fisca_time.specs.declared.unit.Unit.TheVariants as unit
use Rattle.fisca_model.specs.Tables.{otherwise}
use Rattle.fisca_yaml.specs.Find.{line_at}
use Rattle.fisca_yaml.specs.Steps.Find.{get}
use Rattle.fisca_yaml.specs.Node.{Node, null}

-- What is given

key_is_period : (u : Unit) (p : Span) → is_period p ≡ true → is_period (key_period u p) ≡ true
key_is_period unit.Day p h = h
key_is_period unit.Month p h = h
key_is_period unit.Year p h = h
key_is_period unit.Eternity p h = refl

abbrev OtherKey : Given → Given → Type 0
OtherKey g h = same_key (key_given g) (key_given h) ≡ false

each_behind : (h g : Given) (gs : List Given) → Each OtherKey h gs → OtherKey h g → Each OtherKey h (gs ++ g ∷ [])
each_behind h g [] all one = (one, tt)
each_behind h g (k ∷ gs) all one = (all.0, each_behind h g gs all.1 one)

given_behind : (gs : List Given) (g : Given) → AreGiven gs → is_period g.period ≡ true → list_any (λ h. same_key (key_given g) (key_given h)) gs ≡ false
    → AreGiven (gs ++ g ∷ [])
given_behind [] g all period other = (period, (tt, tt))
given_behind (h ∷ gs) g all period other =
    let parts = or_parts (same_key (key_given g) (key_given h)) (list_any (λ k. same_key (key_given g) (key_given k)) gs) other in
    (all.0, (each_behind h g gs all.1.0 (laws-law.symm (key_given h) (key_given g) ∙ parts.0), given_behind gs g all.1.1 period parts.1))

one_given : (gs : List Given) (g : Given) (hs : List Given) → AreGiven gs → is_period g.period ≡ true → and_given gs g ≡ Ok hs → AreGiven hs
one_given gs g hs all period h = by (list_any (λ k. same_key (key_given g) (key_given k)) gs) refl h
  where
    by : (b : Bool) → list_any (λ k. same_key (key_given g) (key_given k)) gs ≡ b
        → (if b then Err (at_line g.line situation.InconsistentInput) else Ok (gs ++ g ∷ [])) ≡ Ok hs → AreGiven hs
    by true there e = cc
    by false other e = let same : gs ++ g ∷ [] ≡ hs = cc in subst AreGiven same (given_behind gs g all period other)

kept_given : (c : Tables) → IsKept c AreGiven
kept_given c x p line n w gs hs there period is all h =
    one_given gs (record { variable = x.variable; member = x.member; period = key_period x.declared.definition_period p; value = w; line = line }) hs all
    (key_is_period x.declared.definition_period p period) h

-- What axes move

abbrev pub ArePeriods : List Given → Type 0
ArePeriods [] = ⊤
ArePeriods (g ∷ gs) = (is_period g.period ≡ true) × ArePeriods gs

either_period : (o p : Option Span) → HasPeriod o → HasPeriod p → HasPeriod (otherwise o p)
either_period None p own other = other
either_period (Some q) p own other = own

moved_period : (x : Variable) (o : Option Span) → HasPeriod o → HasPeriod (period_moved x o)
moved_period x None read p h = by (is_eternity x.definition_period) h
  where
    by : (b : Bool) → (if b then Some eternity else None) ≡ Some p → is_period p ≡ true
    by true e = let same : eternity ≡ p = cc in ap is_period (sym same)
    by false e = cc
moved_period x (Some q) read p h = by (is_accepted (rule_of x) q) h
  where
    by : (b : Bool) → (if b then Some (key_period x.definition_period q) else None) ≡ Some p → is_period p ≡ true
    by true e = let same : key_period x.definition_period q ≡ p = cc in ap is_period (sym same) ∙ key_is_period x.definition_period q (read q refl)
    by false e = cc

at_period : (a : SaidAxis) (place : ℕ) (o : Option Span) (g : Given) → HasPeriod o → moved_or_fault a place o ≡ Ok g → is_period g.period ≡ true
at_period a place None g read h = cc
at_period a place (Some p) g read h = let same : moved_input a place p ≡ g = cc in ap (λ (x : Given). is_period x.period) (sym same) ∙ read p refl

one_moved : (ms : List EntityMembers) (default : Option Span) (a : SaidAxis) (o : Option (ℕ × Variable)) (g : Given) → HasPeriod default → HasPeriod a.period
    → moved_of ms default a o ≡ Ok g
    → is_period g.period ≡ true
one_moved ms default a None g read own h = cc
one_moved ms default a (Some x) g read own h = by (nat_lt a.index (count_at ms x.1.entity)) h
  where
    by : (b : Bool) → (if b then moved_or_fault a x.0 (period_moved x.1 (otherwise a.period default)) else fault_at a.line (kind.Axes BadIndex)) ≡ Ok g
        → is_period g.period ≡ true
    by true e =
        at_period a x.0 (period_moved x.1 (otherwise a.period default)) g
        (moved_period x.1 (otherwise a.period default) (either_period a.period default own read)) e
    by false e = cc

periods_behind : (gs : List Given) (g : Given) → ArePeriods gs → is_period g.period ≡ true → ArePeriods (gs ++ g ∷ [])
periods_behind [] g all one = (one, tt)
periods_behind (h ∷ gs) g all one = (all.0, periods_behind gs g all.1 one)

pub moved_periods : (c : Tables) (ms : List EntityMembers) (default : Option Span) (gs : List Given) (axes : List SaidAxis) (moved : List Given)
    → HasPeriod default → AreSaid axes → ArePeriods gs
    → with_moved c ms default gs axes ≡ Ok moved → ArePeriods moved × (length moved ≡ length gs + length axes)
moved_periods c ms default gs [] moved read said all h = let same : gs ≡ moved = cc in (subst ArePeriods same all, omega (arith, ap length (sym same)))
moved_periods c ms default gs (a ∷ axes) moved read said all h =
    let one = then_ok (moved_by c ms default a) (λ g. with_moved c ms default (gs ++ g ∷ []) axes) moved h in
    let more = moved_periods c ms default (gs ++ one.0 ∷ []) axes moved read said.1
    (periods_behind gs one.0 all (one_moved ms default a (variable_moved c a.name) one.0 read said.0 one.1)) one.2 in
    (more.0, omega (arith, more.1, length-append gs (one.0 ∷ [])))

pub none_overlaps : (given before gs : List Given) (ks : List Key) → apart_from given before gs ≡ Ok ks → NoneOverlaps given before gs
none_overlaps given before [] ks h = tt
none_overlaps given before (g ∷ gs) ks h = by (is_overlap given before g) refl h (none_overlaps given (before ++ g ∷ []) gs ks)
  where
    by : (b : Bool) → is_overlap given before g ≡ b → (if b then fault_at g.line (kind.Axes AxisOverlap) else apart_from given (before ++ g ∷ []) gs) ≡ Ok ks
        → (apart_from given (before ++ g ∷ []) gs ≡ Ok ks → NoneOverlaps given (before ++ g ∷ []) gs)
        → (is_overlap given before g ≡ false) × NoneOverlaps given (before ++ g ∷ []) gs
    by true meets e later = cc
    by false apart e later = (apart, later e)

-- Values

pub cut_parts : (o : Option Variable) (v : Number) → CanPart v → CanPart (cut_by o v)
cut_parts None v parts = parts
cut_parts (Some x) v parts = by x.value_type
  where
    by : (t : DeclaredType) → CanPart (cut_for t v)
    by type.Float = parts
    by type.Int = whole_parts (trunc_of v) (size_whole v)
    by type.Bool = parts
    by type.Date = parts
    by type.Text = parts
    by (type.Enum e) = parts

module _ (c : Tables) where
  -- inputs, each with the value that its axis has
  abbrev pub moving : List Given → List Number → List Moving
  moving [] vs = []
  moving (g ∷ gs) [] = []
  moving (g ∷ gs) (v ∷ vs) = record { given = g; value = Some (cut_by (slice_get c.variables g.variable) v) } ∷ moving gs vs

  pub read_moving : (gs : List Given) (vs : List Number) → length vs ≡ length gs → map given_of (moving gs vs) ≡ gs
  read_moving [] vs many = refl
  read_moving (g ∷ gs) [] many = absurd (omega (arith, many))
  read_moving (g ∷ gs) (v ∷ vs) many = ap (λ hs. g ∷ hs) (read_moving gs vs (omega (arith, many)))

  pub here_moving : (gs : List Given) (vs : List Number) → map here (moving gs vs) ≡ with_values c gs vs
  here_moving [] vs = refl
  here_moving (g ∷ gs) [] = refl
  here_moving (g ∷ gs) (v ∷ vs) = ap (λ hs. here (record { given = g; value = Some (cut_by (slice_get c.variables g.variable) v) }) ∷ hs) (here_moving gs vs)

  sound_moving : (rules : List Rule) (gs : List Given) (vs : List Number) → ArePeriods gs → AllPart vs → AllOf (IsSound rules) (moving gs vs)
  sound_moving rules [] vs periods parts = tt
  sound_moving rules (g ∷ gs) [] periods parts = tt
  sound_moving rules (g ∷ gs) (v ∷ vs) periods parts = (
    moved_sound rules g (cut_by (slice_get c.variables g.variable) v) periods.0
        (cut_parts (slice_get c.variables g.variable) v parts.0),
    sound_moving rules gs vs periods.1 parts.1,
  )

-- Positions

pub length_specs : (xs : List SaidAxis) → length (specs_of xs) ≡ length xs
length_specs [] = refl
length_specs (x ∷ xs) = ap suc (length_specs xs)

pub grid_parts : (key : ℕ) (a : SaidAxes) (groups : List (List AxisSpec)) → grid_of key a ≡ Ok groups
    → (axes_fault (specs_of a.axes) a.lengths ≡ None) × (groups_of (specs_of a.axes) a.lengths ≡ groups)
grid_parts key a groups h = by (axes_fault (specs_of a.axes) a.lengths) refl h
  where
    by : (o : Option AxesFault) → axes_fault (specs_of a.axes) a.lengths ≡ o → grid_unless key a o ≡ Ok groups
        → (axes_fault (specs_of a.axes) a.lengths ≡ None) × (groups_of (specs_of a.axes) a.lengths ≡ groups)
    by None right e = let same : groups_of (specs_of a.axes) a.lengths ≡ groups = cc in (right, same)
    by (Some f) wrong e = cc

pub shared_first : (key : ℕ) (r : Result Entries SituationFault) (ks : List Key) → shared_or_fault key r ≡ Ok ks → (es : Entries) × (r ≡ Ok es)
shared_first key (Ok es) ks h = (es, refl)
shared_first key (Err f) ks h = cc

-- the situation at a position, with what the axes move
pub record IsSituated (c : Tables) (f : RunFile) (position : ℕ) : Type 0 where
  pub moved : List Given
  pub situation : Situation
  pub moves : moved_at c f position ≡ Some moved
  pub is : situation_with c f moved ≡ Ok situation

situated : (c : Tables) (f : RunFile) (position : ℕ) (vs : List Number) (es : Entries) → values_of (axes_at f.groups position) ≡ Some vs
    → inputs_of (map rule_of c.variables) (counts_of f.members) (put_all_in f.given (with_values c f.moved vs)) ≡ Ok es → IsSituated c f position
situated c f position vs es values shared = record {
  moved = with_values c f.moved vs;
  situation = record { members = f.members; inputs = without_marked f.neutral es };
  moves = ap (option_map (with_values c f.moved)) values;
  is = ap (λ r. and_then (and_then r (λ fs. Ok (without_marked f.neutral fs))) (λ fs. Ok (record { members = f.members; inputs = fs }))) shared;
}

-- what was shared when the file was read is shared with these values
with_axes_values : (c : Tables) (f : RunFile) (position key : ℕ) (vs : List Number) → values_of (axes_at f.groups position) ≡ Some vs → AllPart vs
    → length vs ≡ length f.moved → ArePeriods f.moved → AreGiven f.given → apart_from f.given [] f.moved ≡ Ok []
    → sharing_checked c key f.members f.given f.moved ≡ Ok [] → IsSituated c f position
with_axes_values c f position key vs values parts many periods are apart shares =
    let rules = map rule_of c.variables in
    let counts = counts_of f.members in
    let same : map given_of (moving c f.moved vs) ≡ f.moved = read_moving c f.moved vs many in
    let first = shared_first key (inputs_of rules counts (put_all_in f.given f.moved)) [] shares in
    let there = inputs_there rules counts f.given (moving c f.moved vs) first.0 are
    (subst (NoneOverlaps f.given []) (sym same) (none_overlaps f.given [] f.moved [] apart)) (sound_moving c rules f.moved vs periods parts)
    (ap (λ gs. inputs_of rules counts (put_all_in f.given gs)) same ∙ first.1) in
    situated c f position vs there.0 values (ap (λ gs. inputs_of rules counts (put_all_in f.given gs)) (sym (here_moving c f.moved vs)) ∙ there.1)

module _ (c : Tables) (n : Node) (f : RunFile) (read : run_file_of c n ≡ Ok f) (position : ℕ) where
  pub given_are : AreGiven f.given
  given_are =
      let from = read_from c n f read in
      subst AreGiven (sym from.given)
      (all_kept c (default_in n) (default_read n) AreGiven (kept_given c) (line_at (codes "input") 1 n) (unwrap_or (get (codes "input") n) null) from.reading tt
      from.read)

  by_movement : IsMovement c n f.members f.given f.groups f.moved → IsSituated c f position
  by_movement is =
      let axes = is.said.axes in
      let whole = said_whole (axes_line n) (unwrap_or (get (codes "axes") n) null) is.said is.says in
      let grid = grid_parts (axes_line n) is.said f.groups is.grid in
      let periods = moved_periods c f.members (default_in n) [] axes f.moved (default_read n) whole.axes tt is.moves in
      let values = values_at (specs_of axes) is.said.lengths position grid.0 (whole.lengths ∙ sym (length_specs axes)) in
      let many : length values.0 ≡ length f.moved = omega (arith, values.3, length_specs axes, periods.1) in
      with_axes_values c f position (axes_line n) values.0 (ap (λ groups. values_of (axes_at groups position)) (sym grid.1) ∙ values.1) values.2 many periods.0 given_are
      is.apart is.shares

  pub each_situated : IsSituated c f position
  each_situated = by_movement (read_from c n f read).movement
