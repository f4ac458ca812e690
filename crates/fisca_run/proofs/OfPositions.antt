-- The slots of run files between two positions: it is enough to turn those of the groups that have other places.
use Rattle.std.proofs.Common.{◌≡◌, ℕ, suc, ◌≤◌, List, [], ◌∷◌, map, length, drop, Bool, true, false, Option, Some, None, slice_get, refl, sym, ap, subst, ◌∙◌, arith, if◌then◌else◌}
use Rattle.std.specs.Prelude.{◌==◌, Ok, Err, nat_lt, option_map}
use Rattle.std.specs.List.{list_any}
use Rattle.std.proofs.lemmas.Bool.{eqb-true}
use Rattle.fisca_grid.specs.AxesRow.{values_of}
use Rattle.fisca_grid.specs.Grid.{axes_at}
use Rattle.fisca_inputs.specs.Entries.{Entries, key, same_key, value_at}
use Rattle.fisca_inputs.specs.Steps.Inputs.{is_marked}
use Rattle.fisca_inputs.specs.Rules.{Rule, rule_of}
use Rattle.fisca_inputs.specs.Steps.Sharing.{part_ratio}
use Rattle.fisca_inputs.specs.declared.given.Given.{Given}
use Rattle.fisca_model.specs.declared.key.Key.{Key}
use Rattle.fisca_model.specs.Periods.{fits, key_period}
use Rattle.fisca_num.specs.Number.{Number, zero_number}
use Rattle.fisca_num.specs.Operations.{number_of}
use Rattle.fisca_num.specs.declared.faults.NumFault.TheVariants.{ZeroDivisor}
use Rattle.fisca_run_file.specs.Positions.{moved_at}
use Rattle.fisca_run_file.specs.Steps.Positions.{cut_by, inputs_with}
use Rattle.fisca_situations.specs.Steps.Cuts.{cut_for}
use Rattle.fisca_run_file.specs.RunFiles.{RunFile, run_file_of}
use Rattle.fisca_slots.proofs.Both.{Moving, keys_of as input_keys}
use Rattle.fisca_run.proofs.Normal.{rule_at}
use Rattle.fisca_run.proofs.OfFiles.{AllBelow, AreThere, at_position, below_all, keys_are, many_wheels, periods, start, values_there, wheel_is, zs_keys}
use Rattle.fisca_slots.proofs.Parts.{few_parts, some_parts}
use Rattle.fisca_run.proofs.Positions.{ArePeriods, cut_parts, moving}
use Rattle.fisca_slots.proofs.Shared.{Each, Pairwise}
use Rattle.fisca_slots.proofs.Steps.{AllPart, CanPart, most_parts}
use Rattle.fisca_slots.proofs.Turned.{IsPlaced, KeysApart}
use Rattle.fisca_slots.proofs.TurnedSlots.{AreApart, AreBelow, CanStand, IsLong, NoneAt, is_at, still_there, turned_again, wheels_in}
use Rattle.fisca_slots.proofs.SameWheels.{Same, same_for, same_from, values_at_places}
use Rattle.fisca_slots.specs.Turning.{AreSamePlaces, IsSamePlace, turned_below, wheels_from}
use Rattle.fisca_run_file.specs.Slots.{places_of}
use Rattle.fisca_run_file.specs.Steps.Slots.{slots_of, slots_with}
use Rattle.fisca_situations.specs.Steps.Slots.{is_divided, periods_of, share_by, share_in, slot_by, slot_of}
use Rattle.fisca_symbols.specs.declared.tables.Tables.{Tables}
use Rattle.fisca_symbols.specs.declared.variable.Variable.{Variable}
use Rattle.fisca_time.specs.Period.{Span, is_period, subs}
use Rattle.fisca_yaml.specs.Node.{Node}

-- One slot

few_periods : (r : Rule) (g : Given) → is_period g.period ≡ true → length (periods_of r g) ≤ most_parts
few_periods r g period = by (fits r.unit g.period) (few_parts r.unit g.period period)
  where
    by : (b : Bool) → length (subs g.period r.unit) ≤ most_parts → length (if b then key_period r.unit g.period ∷ [] else subs g.period r.unit) ≤ most_parts
    by true few = omega arith
    by false few = few

some_at : (k : Key) (x m : ℕ) (ps : List Span) → list_any (same_key k) (map (λ p. key x m p) ps) ≡ true → (length ps == 0) ≡ false
some_at k x m [] inside = cc
some_at k x m (p ∷ ps) inside = by (suc (length ps) == 0) refl
  where
    by : (b : Bool) → (suc (length ps) == 0) ≡ b → b ≡ false
    by true e = let zero_is : suc (length ps) ≡ 0 = eqb-true (suc (length ps)) 0 e in absurd (omega (arith, zero_is))
    by false e = refl

-- the rule of the variable that a slot moves, which has the key
record IsOf (c : Tables) (g : Given) (k : Key) : Type 0 where
  rule : Rule
  is : slice_get (map rule_of c.variables) g.variable ≡ Some rule
  inside : list_any (same_key k) (input_keys rule g) ≡ true

module _ (c : Tables) (marks : List Bool) (wheel : ℕ) (g : Given) (k : Key) where
  slot_has : (b : Bool) (o : Option Variable) → slice_get c.variables g.variable ≡ o → is_at k (slot_by b o wheel g) ≡ true → IsOf c g k
  slot_has true None is h = cc
  slot_has false None is h = cc
  slot_has true (Some x) is h = cc
  slot_has false (Some x) is h = record {
    rule = rule_of x;
    is = rule_at c.variables g.variable ∙ ap (option_map rule_of) is;
    inside = ap (list_any (same_key k)) (sym (keys_are (rule_of x) g)) ∙ h;
  }

  has_key : is_at k (slot_of c marks wheel g) ≡ true → IsOf c g k
  has_key h = slot_has (is_marked marks g.variable) (slice_get c.variables g.variable) refl h

  stands_by : (b : Bool) (o : Option Variable) (v : Number) → is_period g.period ≡ true → CanPart (cut_by o v) → is_at k (slot_by b o wheel g) ≡ true
      → (n : Number) × (share_in (slot_by b o wheel g) v ≡ Ok n)
  stands_by true None v period parts h = cc
  stands_by false None v period parts h = cc
  stands_by true (Some x) v period parts h = cc
  stands_by false (Some x) v period parts h = by (is_divided r g)
    where
      r : Rule
      r = rule_of x

      some : (length (periods_of r g) == 0) ≡ false
      some = some_at k g.variable g.member (periods_of r g) h

      by : (b : Bool) → (n : Number) × (share_by b (length (periods_of r g)) (cut_for x.value_type v) ≡ Ok n)
      by true =
          let part = parts (length (periods_of r g)) (some_parts (length (periods_of r g)) some) (few_periods r g period) in
          (part.0, ap (λ b. if b then Err ZeroDivisor else number_of (part_ratio (cut_for x.value_type v) (length (periods_of r g)))) some ∙ part.1)
      by false = (cut_for x.value_type v, refl)

  can_stand : (v : Number) → is_period g.period ≡ true → CanPart v → is_at k (slot_of c marks wheel g) ≡ true
      → (n : Number) × (share_in (slot_of c marks wheel g) v ≡ Ok n)
  can_stand v period parts h =
      stands_by (is_marked marks g.variable) (slice_get c.variables g.variable) v period (cut_parts (slice_get c.variables g.variable) v parts) h

-- All slots

module _ (c : Tables) (marks : List Bool) where
  all_stand : (ws : List ℕ) (gs : List Given) (vs : List Number) → ArePeriods gs → AllPart vs → CanStand (slots_with c marks ws gs) vs
  all_stand [] gs vs periods parts = tt
  all_stand (w ∷ ws) [] vs periods parts = tt
  all_stand (w ∷ ws) (g ∷ gs) [] periods parts = tt
  all_stand (w ∷ ws) (g ∷ gs) (v ∷ vs) periods parts = (
    λ k inside. can_stand c marks w g k v periods.0 parts.0 inside,
    all_stand ws gs vs periods.1 parts.1,
  )

  all_long : (ws : List ℕ) (gs : List Given) (vs : List Number) → length vs ≡ length gs → IsLong (slots_with c marks ws gs) vs
  all_long [] gs vs many = tt
  all_long (w ∷ ws) [] vs many = tt
  all_long (w ∷ ws) (g ∷ gs) [] many = absurd (omega (arith, many))
  all_long (w ∷ ws) (g ∷ gs) (v ∷ vs) many = all_long ws gs vs (omega (arith, many))

  same_wheels : (ws : List ℕ) (gs : List Given) → length ws ≡ length gs → wheels_in (slots_with c marks ws gs) ≡ ws
  same_wheels [] gs many = refl
  same_wheels (w ∷ ws) [] many = absurd (omega (arith, many))
  same_wheels (w ∷ ws) (g ∷ gs) many = λ i. wheel_is c marks w g zero_number i ∷ same_wheels ws gs (omega (arith, many)) i

  all_low : (most : ℕ) (ws : List ℕ) (gs : List Given) → AllBelow most ws → AreBelow most (slots_with c marks ws gs)
  all_low most [] gs low = tt
  all_low most (w ∷ ws) [] low = tt
  all_low most (w ∷ ws) (g ∷ gs) low = (ap (λ n. nat_lt n most) (wheel_is c marks w g zero_number) ∙ low.0, all_low most ws gs low.1)

  module _ (P : Moving → Type 0) where
    others : (t : Moving) (r : Rule) → slice_get (map rule_of c.variables) t.given.variable ≡ Some r → (k : Key)
        → list_any (same_key k) (input_keys r t.given) ≡ true → (ws : List ℕ) (gs : List Given) (vs : List Number) → length vs ≡ length gs
        → Each (KeysApart (map rule_of c.variables)) t (moving c gs vs) → NoneAt k (slots_with c marks ws gs)
    others t r is k inside [] gs vs many apart = tt
    others t r is k inside (w ∷ ws) [] vs many apart = tt
    others t r is k inside (w ∷ ws) (g ∷ gs) [] many apart = absurd (omega (arith, many))
    others t r is k inside (w ∷ ws) (g ∷ gs) (v ∷ vs) many apart =
        (by (is_at k (slot_of c marks w g)) refl, others t r is k inside ws gs vs (omega (arith, many)) apart.1)
      where
        by : (b : Bool) → is_at k (slot_of c marks w g) ≡ b → b ≡ false
        by true there = let found = has_key c marks w g k there in absurd (apart.0 r found.rule is found.is k inside found.inside)
        by false out = refl

    all_apart : (ws : List ℕ) (gs : List Given) (vs : List Number) → length vs ≡ length gs → Pairwise P (KeysApart (map rule_of c.variables)) (moving c gs vs)
        → AreApart (slots_with c marks ws gs)
    all_apart [] gs vs many apart = tt
    all_apart (w ∷ ws) [] vs many apart = tt
    all_apart (w ∷ ws) (g ∷ gs) [] many apart = absurd (omega (arith, many))
    all_apart (w ∷ ws) (g ∷ gs) (v ∷ vs) many apart = (
      λ k inside.
          let found = has_key c marks w g k inside in
          others (record { given = g; value = Some (cut_by (slice_get c.variables g.variable) v) }) found.rule found.is k found.inside ws gs vs (omega (arith, many)) apart.1.0,
      all_apart ws gs vs (omega (arith, many)) apart.1.1,
    )

-- Two positions

module _ (c : Tables) (n : Node) (f : RunFile) (read : run_file_of c n ≡ Ok f) (p q : ℕ) (ps qs : List Number)
    (here : values_of (axes_at f.groups p) ≡ Some ps) (there : values_of (axes_at f.groups q) ≡ Some qs) where
  old : AreThere c n f read ps
  old = values_there c n f read p ps here

  new : AreThere c n f read qs
  new = values_there c n f read q qs there

  same : Same (IsSamePlace (places_of f p) (places_of f q)) (wheels_in (slots_of c f)) ps qs
  same =
      subst (λ ws. Same (IsSamePlace (places_of f p) (places_of f q)) ws ps qs)
      (sym (same_wheels c f.neutral (wheels_from 0 f.groups) f.moved (many_wheels c n f read))) (values_at_places f.groups p q ps qs here there)

  long_old : IsLong (slots_of c f) ps
  long_old = all_long c f.neutral (wheels_from 0 f.groups) f.moved ps old.many

  long_new : IsLong (slots_of c f) qs
  long_new = all_long c f.neutral (wheels_from 0 f.groups) f.moved qs new.many

  module _ (before after : List Given) (at_p : moved_at c f p ≡ Some before) (at_q : moved_at c f q ≡ Some after) (es : Entries)
      (is : inputs_with c f before ≡ Ok es) where
    started : turned_below (length f.groups) (slots_of c f) ps (start c n f read) ≡ es
    started =
        let both : Ok (turned_below (length f.groups) (slots_of c f) ps (start c n f read)) ≡ Ok es = sym (at_position c n f read p before ps at_p here) ∙ is in
        cc

    pub turned_to : (wheel : ℕ) → drop wheel (places_of f p) ≡ drop wheel (places_of f q) → inputs_with c f after ≡ Ok (turned_below wheel (slots_of c f) qs es)
    turned_to wheel later =
        at_position c n f read q after qs at_q there
        ∙ ap Ok (sym (turned_again (length f.groups) wheel (slots_of c f) ps qs (start c n f read)
        (all_apart c f.neutral (IsPlaced (map rule_of c.variables) (moving c f.moved ps)) (wheels_from 0 f.groups) f.moved ps old.many (zs_keys c n f read ps old))
        (all_low c f.neutral (length f.groups) (wheels_from 0 f.groups) f.moved (below_all (length f.groups) 0 f.groups (omega arith)))
        (all_stand c f.neutral (wheels_from 0 f.groups) f.moved ps (periods c n f read).0 old.parts)
        (all_stand c f.neutral (wheels_from 0 f.groups) f.moved qs (periods c n f read).0 new.parts) long_old long_new
        (same_for (IsSamePlace (places_of f p) (places_of f q)) (λ w. nat_lt w wheel ≡ false) (same_from wheel (places_of f p) (places_of f q) later)
        (wheels_in (slots_of c f)) ps qs same))
        ∙ ap (turned_below wheel (slots_of c f) qs) started)

    pub stays_at : (fs : Entries) → inputs_with c f after ≡ Ok fs → (k : Key) → AreSamePlaces (places_of f p) (places_of f q) (slots_of c f) k.variable
        → value_at es k ≡ value_at fs k
    stays_at fs are k places =
        let both : Ok (turned_below (length f.groups) (slots_of c f) qs (start c n f read)) ≡ Ok fs = sym (at_position c n f read q after qs at_q there) ∙ are in
        let ended : turned_below (length f.groups) (slots_of c f) qs (start c n f read) ≡ fs = cc in
        ap (λ gs. value_at gs k) (sym started)
        ∙ (still_there (length f.groups) (places_of f p) (places_of f q) (slots_of c f) ps qs (start c n f read) k same long_old long_new places
        ∙ ap (λ gs. value_at gs k) ended)
