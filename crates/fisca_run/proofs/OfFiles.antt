-- The slots of run files: with them the inputs of one position become those of another.
use Rattle.std.proofs.Common.{◌≡◌, true≢false, codes, length-append, ℕ, suc, ◌+◌, ◌<◌, ◌≤◌, List, [], ◌∷◌, ◌++◌, map, length, Bool, true, false, cond, not, Option, Some, None, is_some, slice_get, refl, sym, ap, ap₂, subst, ◌∙◌, arith, inl, inr, if◌then◌else◌}
use Rattle.std.specs.Prelude.{⊤, Ok, nat_lt, option_map}
use Rattle.std.specs.List.{list_any}
use Rattle.std.specs.Option.{unwrap_or}
use Rattle.std.proofs.lemmas.Bool.{lt-ltb}
use Rattle.fisca_columns.specs.Steps.Calc.{default_in}
use Rattle.fisca_grid.specs.AxesRow.{values_of}
use Rattle.fisca_grid.specs.Grid.{axes_at, axes_in}
use Rattle.fisca_inputs.specs.Entries.{Entries, key, same_key}
use Rattle.fisca_inputs.specs.Inputs.{inputs_of, without_marked}
use Rattle.fisca_inputs.specs.Steps.Inputs.{is_marked}
use Rattle.fisca_inputs.specs.Rules.{Rule, rule_of}
use Rattle.fisca_inputs.specs.declared.given.Given.{Given}
use Rattle.fisca_model.specs.declared.key.Key.{Key}
use Rattle.fisca_model.specs.Periods.{fits, key_period}
use Rattle.fisca_groups.specs.Lookup.{counts_of as member_counts}
use Rattle.fisca_num.specs.Number.{Number}
use Rattle.fisca_num.specs.Results.{and_then}
use Rattle.fisca_situations.specs.AllAxes.{put_all_in}
use Rattle.fisca_run_file.specs.Positions.{moved_at}
use Rattle.fisca_run_file.specs.Steps.Positions.{cut_by, inputs_with, with_values}
use Rattle.fisca_situations.specs.Steps.Cuts.{cut_for}
use Rattle.fisca_run_file.specs.RunFiles.{RunFile, run_file_of}
use Rattle.fisca_slots.proofs.Anew.{Anew, set, share_for}
use Rattle.fisca_grid.specs.declared.axes.AxisSpec.{AxisSpec}
use Rattle.fisca_run_file.specs.Steps.Grids.{specs_of}
use Rattle.fisca_run_file.specs.SaidAxes.{SaidAxis}
use Rattle.fisca_run.proofs.Files.{IsRead, axes_line, read_from}
use Rattle.fisca_run.proofs.Reading.{all_kept}
use Rattle.fisca_run.proofs.Said.{IsWhole, default_read, said_whole}
use Rattle.fisca_yaml.specs.Find.{line_at}
use Rattle.fisca_yaml.specs.Steps.Find.{get}
use Rattle.fisca_yaml.specs.Node.{Node, null}
use Rattle.fisca_slots.proofs.Both.{Moving, keys_of as input_keys, length_parts}
use Rattle.fisca_run.proofs.Normal.{AreNormal, kept_normal, moved_normal, rule_at}
use Rattle.fisca_slots.proofs.Parts.{given_sound, key_variable, moved_sound}
use Rattle.fisca_slots.proofs.Placed.{AllOf, Distinct, NoneOverlaps}
use Rattle.fisca_run.proofs.Positions.{ArePeriods, cut_parts, given_are, grid_parts, here_moving, length_specs, moved_periods, moving, none_overlaps, read_moving, shared_first}
use Rattle.fisca_slots.proofs.Shared.{Pairwise, given_of}
use Rattle.fisca_run.proofs.Situated.{AreGiven}
use Rattle.fisca_slots.proofs.Standing.{Among}
use Rattle.fisca_slots.proofs.Steps.{AllPart, axes_grouped, values_at}
use Rattle.fisca_slots.proofs.Turned.{IsMoved, IsPlaced, KeysApart, axis, inputs_turned, keys_of_zs, stand, stand_out, to_of}
use Rattle.fisca_slots.proofs.TurnedSlots.{set_twice, turned_is}
use Rattle.fisca_situations.proofs.Sets.{set_none}
use Rattle.fisca_run_file.specs.Steps.Slots.{slots_of, slots_with}
use Rattle.fisca_slots.specs.Turning.{turned_below, wheels_from}
use Rattle.fisca_situations.specs.Steps.Slots.{is_divided, periods_of, share_by, slot_by, slot_of, turned}
use Rattle.fisca_symbols.specs.declared.tables.Tables.{Tables}
use Rattle.fisca_symbols.specs.declared.variable.Variable.{Variable}
use Rattle.fisca_time.specs.Period.{subs}

-- Neutralised variables

module _ (marks : List Bool) where
  abbrev pub IsLeft : Entries → Type 0
  IsLeft [] = ⊤
  IsLeft (e ∷ es) = (is_marked marks e.0.variable ≡ false) × IsLeft es

  left_set : (to : Anew) (es : Entries) → IsLeft es → IsLeft (set to es)
  left_set to [] left = tt
  left_set to (e ∷ es) left = (left.0, left_set to es left.1)

  pub left_of : (es : Entries) → IsLeft (without_marked marks es)
  left_of [] = tt
  left_of (e ∷ es) = by (is_marked marks e.0.variable) refl (left_of es)
    where
      by : (b : Bool) → is_marked marks e.0.variable ≡ b → IsLeft (without_marked marks es)
          → IsLeft (cond (not b) (e ∷ without_marked marks es) (without_marked marks es))
      by true is left = left
      by false is left = (is, left)

  pub without_set : (to : Anew) (es : Entries) → without_marked marks (set to es) ≡ set to (without_marked marks es)
  without_set to [] = refl
  without_set to (e ∷ es) = by (is_marked marks e.0.variable) (without_set to es)
    where
      by : (b : Bool) → without_marked marks (set to es) ≡ set to (without_marked marks es)
          → cond (not b) ((e.0, to e.0 e.1) ∷ without_marked marks (set to es)) (without_marked marks (set to es))
          ≡ set to (cond (not b) (e ∷ without_marked marks es) (without_marked marks es))
      by true h = h
      by false h = ap (λ fs. (e.0, to e.0 e.1) ∷ fs) h

  -- what stands at no key of these entries anew
  set_elsewhere : (to : Anew) (es : Entries) → IsLeft es → ((k : Key) (x : _) → is_marked marks k.variable ≡ false → to k x ≡ x) → set to es ≡ es
  set_elsewhere to [] left same = refl
  set_elsewhere to (e ∷ es) left same = ap₂ (λ x fs. (e.0, x) ∷ fs) (same e.0 e.1 left.0) (set_elsewhere to es left.1 same)

-- One slot

module _ (r : Rule) (g : Given) where
  pub keys_are : map (λ p. key g.variable g.member p) (periods_of r g) ≡ input_keys r g
  keys_are = by (fits r.unit g.period)
    where
      by : (b : Bool) → map (λ p. key g.variable g.member p) (if b then key_period r.unit g.period ∷ [] else subs g.period r.unit)
          ≡ (if b then key g.variable g.member (key_period r.unit g.period) ∷ [] else map (λ p. key g.variable g.member p) (subs g.period r.unit))
      by true = refl
      by false = refl

  many_keys : length (periods_of r g) ≡ length (input_keys r g)
  many_keys = sym (length_parts g.variable g.member (periods_of r g)) ∙ ap length keys_are

module _ (c : Tables) (marks : List Bool) (wheel : ℕ) (g : Given) (v : Number) where
  abbrev own_axis : Option Variable → Anew
  own_axis o = axis (option_map rule_of o) g (Some (cut_by o v))

  slot_is : (b : Bool) (o : Option Variable) (es : Entries) → IsLeft marks es → is_marked marks g.variable ≡ b
      → set (own_axis o) es ≡ turned (slot_by b o wheel g) v es
  slot_is true None es left is = refl
  slot_is false None es left is = refl
  slot_is true (Some x) es left is =
      set_elsewhere marks (own_axis (Some x)) es left (λ k w unmarked.
      stand_out (share_for (rule_of x) g (cut_for x.value_type v)) (input_keys (rule_of x) g) k (outside k unmarked) w)
      ∙ sym (set_none es)
    where
      outside : (k : Key) → is_marked marks k.variable ≡ false → list_any (same_key k) (input_keys (rule_of x) g) ≡ false
      outside k unmarked = by (list_any (same_key k) (input_keys (rule_of x) g)) refl
        where
          by : (b : Bool) → list_any (same_key k) (input_keys (rule_of x) g) ≡ b → b ≡ false
          by true inside =
              absurd (true≢false (sym is ∙ (ap (is_marked marks) (sym (key_variable (rule_of x) g k inside)) ∙ unmarked)))
          by false out = refl
  slot_is false (Some x) es left is =
      ap₂ (λ ks o. set (stand o ks) es) (sym (keys_are (rule_of x) g))
      (ap (λ n. share_by (is_divided (rule_of x) g) n (cut_for x.value_type v)) (sym (many_keys (rule_of x) g)))
      ∙ sym (turned_is (slot_by false (Some x) wheel g) v es)

  pub one_slot : (es : Entries) → IsLeft marks es
      → set (axis (slice_get (map rule_of c.variables) g.variable) g (Some (cut_by (slice_get c.variables g.variable) v))) es
      ≡ turned (slot_of c marks wheel g) v es
  one_slot es left =
      ap (λ o. set (axis o g (Some (cut_by (slice_get c.variables g.variable) v))) es) (rule_at c.variables g.variable)
      ∙ slot_is (is_marked marks g.variable) (slice_get c.variables g.variable) es left refl

  pub wheel_is : (slot_of c marks wheel g).wheel ≡ wheel
  wheel_is = by (is_marked marks g.variable) (slice_get c.variables g.variable)
    where
      by : (b : Bool) (o : Option Variable) → (slot_by b o wheel g).wheel ≡ wheel
      by true None = refl
      by false None = refl
      by true (Some x) = refl
      by false (Some x) = refl

-- All slots

abbrev pub AllBelow : ℕ → List ℕ → Type 0
AllBelow most [] = ⊤
AllBelow most (w ∷ ws) = (nat_lt w most ≡ true) × AllBelow most ws

module _ (c : Tables) (marks : List Bool) (most : ℕ) where
  pub to_slots : (ws : List ℕ) (gs : List Given) (vs : List Number) (es : Entries) → AllBelow most ws → length ws ≡ length gs → IsLeft marks es
      → set (to_of (map rule_of c.variables) (moving c gs vs)) es ≡ turned_below most (slots_with c marks ws gs) vs es
  to_slots [] [] vs es low many left = set_none es
  to_slots [] (g ∷ gs) vs es low many left = absurd (omega (arith, many))
  to_slots (w ∷ ws) [] vs es low many left = set_none es
  to_slots (w ∷ ws) (g ∷ gs) [] es low many left = set_none es
  to_slots (w ∷ ws) (g ∷ gs) (v ∷ vs) es low many left =
      let rules = map rule_of c.variables in
      let slot = slot_of c marks w g in
      let one : Anew = axis (slice_get rules g.variable) g (Some (cut_by (slice_get c.variables g.variable) v)) in
      let is : set one es ≡ turned slot v es = one_slot c marks w g v es left in
      let first : turned slot v es ≡ (if nat_lt slot.wheel most then turned slot v es else es) =
      ap (λ b. if b then turned slot v es else es) (sym (ap (λ n. nat_lt n most) (wheel_is c marks w g v) ∙ low.0)) in
      sym (set_twice one (to_of rules (moving c gs vs)) es)
      ∙ (to_slots ws gs vs (set one es) low.1 (omega (arith, many)) (left_set marks one es left)
      ∙ ap (turned_below most (slots_with c marks ws gs) vs) (is ∙ first))

-- The axes of a file

module _ (c : Tables) (zs : List Moving) where
  placed_all : (gs : List Given) (vs : List Number) → ArePeriods gs → AllPart vs → AreNormal c gs → ((z : Moving) → Among z (moving c gs vs) → Among z zs)
      → AllOf (IsPlaced (map rule_of c.variables) zs) (moving c gs vs)
  placed_all [] vs periods parts normals inside = tt
  placed_all (g ∷ gs) [] periods parts normals inside = tt
  placed_all (g ∷ gs) (v ∷ vs) periods parts normals inside =
      let w = cut_by (slice_get c.variables g.variable) v in (
        record {
          sound = moved_sound (map rule_of c.variables) g w periods.0 (cut_parts (slice_get c.variables g.variable) v parts.0);
          normal = normals.0;
          own = λ h. inside (record { given = g; value = Some w }) (inl refl);
        },
        placed_all gs vs periods.1 parts.1 normals.1 (λ z m. inside z (inr m)),
      )

  distinct_given : (gs : List Given) → AreGiven gs → AreNormal c gs → Distinct (IsPlaced (map rule_of c.variables) zs) gs
  distinct_given [] all normals = tt
  distinct_given (g ∷ gs) all normals = (
    record { sound = given_sound (map rule_of c.variables) g all.0; normal = normals.0; own = λ h. absurd (true≢false (sym h)) },
    (all.1.0, distinct_given gs all.1.1 normals.1),
  )

module _ (c : Tables) where
  all_moved : (gs : List Given) (vs : List Number) (z : Moving) → Among z (moving c gs vs) → IsMoved (map rule_of c.variables) z
  all_moved [] vs z m = absurd m
  all_moved (g ∷ gs) [] z m = absurd m
  all_moved (g ∷ gs) (v ∷ vs) z (inl e) = ap (λ (y : Moving). is_some y.value) e
  all_moved (g ∷ gs) (v ∷ vs) z (inr m) = all_moved gs vs z m

pub length-wheels : (w : ℕ) (groups : List (List AxisSpec)) → length (wheels_from w groups) ≡ axes_in groups
length-wheels w [] = refl
length-wheels w (group ∷ groups) =
    omega (arith, length-append (map (λ axis. w) group) (wheels_from (suc w) groups), one group, length-wheels (suc w) groups)
  where
    one : (group : List AxisSpec) → length (map (λ axis. w) group) ≡ length group
    one [] = refl
    one (x ∷ group) = ap suc (one group)

below_group : (most w : ℕ) (group : List AxisSpec) (ws : List ℕ) → w < most → AllBelow most ws → AllBelow most (map (λ axis. w) group ++ ws)
below_group most w [] ws low all = all
below_group most w (x ∷ group) ws low all = (lt-ltb w most low, below_group most w group ws low all)

pub below_all : (most w : ℕ) (groups : List (List AxisSpec)) → w + length groups ≤ most → AllBelow most (wheels_from w groups)
below_all most w [] h = tt
below_all most w (group ∷ groups) h =
    below_group most w group (wheels_from (suc w) groups) (omega (arith, h)) (below_all most (suc w) groups (omega (arith, h)))

-- Files

module _ (c : Tables) (n : Node) (f : RunFile) (read : run_file_of c n ≡ Ok f) where
  pub from : IsRead c n f
  from = read_from c n f read

  pub axes : List SaidAxis
  axes = from.movement.said.axes

  whole : IsWhole from.movement.said
  whole = said_whole (axes_line n) (unwrap_or (get (codes "axes") n) null) from.movement.said from.movement.says

  pub periods : ArePeriods f.moved × (length f.moved ≡ 0 + length axes)
  unfolding axes from
  periods = moved_periods c f.members (default_in n) [] axes f.moved (default_read n) whole.axes tt from.movement.moves

  moved_are : AreNormal c f.moved
  unfolding axes from
  moved_are = moved_normal c f.members (default_in n) [] axes f.moved tt from.movement.moves

  normal_are : AreNormal c f.given
  normal_are =
      subst (AreNormal c) (sym from.given)
      (all_kept c (default_in n) (default_read n) (AreNormal c) (kept_normal c) (line_at (codes "input") 1 n) (unwrap_or (get (codes "input") n) null)
      from.reading tt from.read)

  -- as they were shared when the file was read
  first : (es : Entries) × (inputs_of (map rule_of c.variables) (member_counts f.members) (put_all_in f.given f.moved) ≡ Ok es)
  first = shared_first (axes_line n) (inputs_of (map rule_of c.variables) (member_counts f.members) (put_all_in f.given f.moved)) [] from.movement.shares

  pub start : Entries
  start = without_marked f.neutral first.0

  pub starts : inputs_with c f f.moved ≡ Ok start
  unfolding start first
  starts = ap (λ r. and_then r (λ es. Ok (without_marked f.neutral es))) first.1

  pub record AreThere (vs : List Number) : Type 0 where
    pub parts : AllPart vs
    pub many : length vs ≡ length f.moved

  pub values_there : (position : ℕ) (vs : List Number) → values_of (axes_at f.groups position) ≡ Some vs → AreThere vs
  unfolding axes from
  values_there position vs h =
      let grid = grid_parts (axes_line n) from.movement.said f.groups from.movement.grid in
      let found = values_at (specs_of axes) from.movement.said.lengths position grid.0 (whole.lengths ∙ sym (length_specs axes)) in
      let both : Some found.0 ≡ Some vs = sym found.1 ∙ (ap (λ groups. values_of (axes_at groups position)) grid.1 ∙ h) in
      let same : found.0 ≡ vs = cc in
      record {
        parts = subst AllPart same found.2;
        many = ap length (sym same) ∙ omega (arith, found.3, length_specs axes, periods.1);
      }

  pub many_wheels : length (wheels_from 0 f.groups) ≡ length f.moved
  unfolding axes from
  many_wheels =
      let grid = grid_parts (axes_line n) from.movement.said f.groups from.movement.grid in
      let count : axes_in f.groups ≡ length (specs_of axes) =
      ap axes_in (sym grid.1) ∙ axes_grouped (specs_of axes) from.movement.said.lengths (whole.lengths ∙ sym (length_specs axes)) in
      omega (arith, length-wheels 0 f.groups, count, length_specs axes, periods.1)

  module _ (vs : List Number) (there : AreThere vs) where
    abbrev pub zs : List Moving
    zs = moving c f.moved vs

    read_back : map given_of zs ≡ f.moved
    read_back = read_moving c f.moved vs there.many

    distinct : Distinct (IsPlaced (map rule_of c.variables) zs) f.given
    distinct = distinct_given c zs f.given (given_are c n f read 0) normal_are

    placed : AllOf (IsPlaced (map rule_of c.variables) zs) zs
    placed = placed_all c zs f.moved vs periods.0 there.parts moved_are (λ z m. m)

    apart : NoneOverlaps f.given [] (map given_of zs)
    apart = subst (NoneOverlaps f.given []) (sym read_back) (none_overlaps f.given [] f.moved [] from.movement.apart)

    shared : inputs_of (map rule_of c.variables) (member_counts f.members) (put_all_in f.given (with_values c f.moved vs))
        ≡ Ok (set (to_of (map rule_of c.variables) zs) first.0)
    shared =
        ap (λ gs. inputs_of (map rule_of c.variables) (member_counts f.members) (put_all_in f.given gs)) (sym (here_moving c f.moved vs))
        ∙ inputs_turned (map rule_of c.variables) (member_counts f.members) f.given zs distinct placed (all_moved c f.moved vs) apart first.0
        (ap (λ gs. inputs_of (map rule_of c.variables) (member_counts f.members) (put_all_in f.given gs)) read_back ∙ first.1)

    pub zs_keys : Pairwise (IsPlaced (map rule_of c.variables) zs) (KeysApart (map rule_of c.variables)) zs
    zs_keys = keys_of_zs (map rule_of c.variables) (member_counts f.members) f.given zs distinct placed (all_moved c f.moved vs) apart

    -- from the inputs where the axes have no values
    pub from_start : inputs_with c f (with_values c f.moved vs) ≡ Ok (turned_below (length f.groups) (slots_of c f) vs start)
    unfolding start first
    from_start =
        ap (λ r. and_then r (λ es. Ok (without_marked f.neutral es))) shared
        ∙ ap Ok (without_set f.neutral (to_of (map rule_of c.variables) zs) first.0
        ∙ to_slots c f.neutral (length f.groups) (wheels_from 0 f.groups) f.moved vs start
        (below_all (length f.groups) 0 f.groups (omega arith)) many_wheels (left_of f.neutral first.0))

  -- at a position
  pub at_position : (position : ℕ) (moved : List Given) (vs : List Number) → moved_at c f position ≡ Some moved → values_of (axes_at f.groups position) ≡ Some vs
      → inputs_with c f moved ≡ Ok (turned_below (length f.groups) (slots_of c f) vs start)
  at_position position moved vs h values =
      let is : Some (with_values c f.moved vs) ≡ Some moved = sym (ap (option_map (with_values c f.moved)) values) ∙ h in
      let same : with_values c f.moved vs ≡ moved = cc in
      ap (inputs_with c f) (sym same) ∙ from_start vs (values_there position vs values)
