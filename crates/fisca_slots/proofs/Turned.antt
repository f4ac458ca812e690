-- Inputs with those of axes: what comes of them with other values of the axes is the same, but at the keys that the axes move.
use Rattle.std.proofs.Common.{◌≡◌, true≢false, ℕ, List, [], ◌∷◌, map, Bool, true, false, Option, Some, None, is_some, slice_get, refl, sym, ap, ap₂, subst, ◌∙◌, inl, inr, if◌then◌else◌, ◌||◌}
use Rattle.std.specs.Prelude.{⊤, Result, Ok, Err}
use Rattle.std.specs.List.{list_any}
use Rattle.std.proofs.lemmas.Bool.{or_right}
use Rattle.fisca_inputs.specs.Entries.{Entries, same_key}
use Rattle.fisca_inputs.specs.Inputs.{inputs_of}
use Rattle.fisca_inputs.specs.Rules.{Rule}
use Rattle.fisca_model.specs.contracts.key.KeyEq.TheImpl.Laws.{laws-law}
use Rattle.fisca_inputs.specs.declared.given.Given.{Given}
use Rattle.fisca_model.specs.declared.value.Value.{Value}
use Rattle.fisca_model.specs.declared.value.Value.TheVariants.{Number as number}
use Rattle.fisca_model.specs.declared.key.Key.{Key}
use Rattle.fisca_model.specs.Periods.{is_eternity}
use Rattle.fisca_num.specs.Number.{Number}
use Rattle.fisca_num.specs.declared.faults.NumFault.{NumFault}
use Rattle.fisca_situations.specs.AllAxes.{put_all_in}
use Rattle.fisca_inputs.specs.Overlaps.{shares_day}
use Rattle.fisca_slots.proofs.Anew.{Agrees, Anew, IsEven, Stands, set, share_for}
use Rattle.fisca_slots.proofs.AnewAll.{AllThere, IsFit, Still, There, inputs_again}
use Rattle.fisca_slots.proofs.Both.{Moving, here, keys_of}
use Rattle.fisca_slots.proofs.Parts.{IsSound, all_disjoint, any_key, key_variable, meets_common}
use Rattle.fisca_slots.proofs.Placed.{AllOf, Apart, Distinct, NoneOverlaps, across, all_here, all_read, here_unmoved, place_all, read_unmoved, turned, unmoved, with_axes_apart}
use Rattle.fisca_slots.proofs.Shared.{CanShare, Disjoint, Each, Pairwise, given_of, order_moving, sound_ordered}
use Rattle.fisca_slots.proofs.Standing.{Among, all_across, all_apart, all_placed, among_order, each_from, holds_at, key_member, pair_at, pairs_to}
use Rattle.fisca_time.specs.Period.{eternity, is_period}

-- What stands at a key

-- a share of the axis's value at these keys, and what stood there at all others
abbrev pub stand : Result Number NumFault → List Key → Key → Value → Value
stand (Ok n) ks k x = if list_any (same_key k) ks then number n else x
stand (Err f) ks k x = x

abbrev pub axis : Option Rule → Given → Option Number → Key → Value → Value
axis None g o k x = x
axis (Some r) g None k x = x
axis (Some r) g (Some v) k x = stand (share_for r g v) (keys_of r g) k x

pub inside_like : (j k : Key) → same_key j k ≡ true → (ks : List Key) → list_any (same_key j) ks ≡ list_any (same_key k) ks
inside_like j k e [] = refl
inside_like j k e (q ∷ ks) = ap₂ (λ a b. a || b) (laws-law.congr j k q e) (inside_like j k e ks)

pub stand_even : (o : Result Number NumFault) (ks : List Key) → IsEven (stand o ks)
stand_even (Ok n) ks j k e x = ap (λ b. if b then number n else x) (inside_like j k e ks)
stand_even (Err f) ks j k e x = refl

pub stand_out : (o : Result Number NumFault) (ks : List Key) (q : Key) → list_any (same_key q) ks ≡ false → (x : Value) → stand o ks q x ≡ x
stand_out (Ok n) ks q out x = ap (λ b. if b then number n else x) out
stand_out (Err f) ks q out x = refl

axis_even : (o : Option Rule) (g : Given) (v : Option Number) → IsEven (axis o g v)
axis_even None g v j k e x = refl
axis_even (Some r) g None j k e x = refl
axis_even (Some r) g (Some v) j k e x = stand_even (share_for r g v) (keys_of r g) j k e x

module _ (rules : List Rule) where
  abbrev pub to_of : List Moving → Anew
  to_of [] k x = x
  to_of (z ∷ zs) k x = to_of zs k (axis (slice_get rules z.given.variable) z.given z.value k x)

  pub to_even : (zs : List Moving) → IsEven (to_of zs)
  to_even [] j k e x = refl
  to_even (z ∷ zs) j k e x =
      ap (to_of zs j) (axis_even (slice_get rules z.given.variable) z.given z.value j k e x)
      ∙ to_even zs j k e (axis (slice_get rules z.given.variable) z.given z.value k x)

  -- a key that no axis moves

  abbrev pub NotAt : Key → Moving → Type 0
  NotAt q z = (r : Rule) → slice_get rules z.given.variable ≡ Some r → list_any (same_key q) (keys_of r z.given) ≡ false

  abbrev pub NotIn : Key → List Moving → Type 0
  NotIn q [] = ⊤
  NotIn q (z ∷ zs) = NotAt q z × NotIn q zs

  axis_out : (z : Moving) (q : Key) → NotAt q z → (x : Value) → axis (slice_get rules z.given.variable) z.given z.value q x ≡ x
  axis_out z q out x = by (slice_get rules z.given.variable) refl z.value
    where
      by : (o : Option Rule) → slice_get rules z.given.variable ≡ o → (v : Option Number) → axis o z.given v q x ≡ x
      by None is v = refl
      by (Some r) is None = refl
      by (Some r) is (Some v) = stand_out (share_for r z.given v) (keys_of r z.given) q (out r is) x

  pub none_at : (zs : List Moving) (q : Key) → NotIn q zs → (x : Value) → to_of zs q x ≡ x
  none_at [] q out x = refl
  none_at (z ∷ zs) q out x = ap (to_of zs q) (axis_out z q out.0 x) ∙ none_at zs q out.1 x

  -- a key that one axis moves

  abbrev pub KeysApart : Moving → Moving → Type 0
  KeysApart t u =
      (r s : Rule) → slice_get rules t.given.variable ≡ Some r → slice_get rules u.given.variable ≡ Some s → (q : Key)
      → list_any (same_key q) (keys_of r t.given) ≡ true → list_any (same_key q) (keys_of s u.given) ≡ true → ⊥

  not_there : (t u : Moving) (r : Rule) → slice_get rules t.given.variable ≡ Some r → (q : Key) → list_any (same_key q) (keys_of r t.given) ≡ true
      → KeysApart t u → NotAt q u
  not_there t u r is q inside apart s at = by (list_any (same_key q) (keys_of s u.given)) refl
    where
      by : (b : Bool) → list_any (same_key q) (keys_of s u.given) ≡ b → b ≡ false
      by true there = absurd (apart r s is at q inside there)
      by false out = refl

  none_there : (t : Moving) (zs : List Moving) (r : Rule) → slice_get rules t.given.variable ≡ Some r → (q : Key)
      → list_any (same_key q) (keys_of r t.given) ≡ true → Each KeysApart t zs → NotIn q zs
  none_there t [] r is q inside all = tt
  none_there t (z ∷ zs) r is q inside all = (not_there t z r is q inside all.0, none_there t zs r is q inside all.1)

  module _ (z : Moving) (r : Rule) (is : slice_get rules z.given.variable ≡ Some r) (q : Key) (inside : list_any (same_key q) (keys_of r z.given) ≡ true)
      (v : Number) (has_value : z.value ≡ Some v) (n : Number) (share : share_for r z.given v ≡ Ok n) where
    own_axis : (x : Value) → axis (slice_get rules z.given.variable) z.given z.value q x ≡ number n
    own_axis x =
        ap₂ (λ o w. axis o z.given w q x) is has_value
        ∙ (ap (λ o. stand o (keys_of r z.given) q x) share ∙ ap (λ b. if b then number n else x) inside)

    pub some_at : (P : Moving → Type 0) (zs : List Moving) → Pairwise P KeysApart zs → Among z zs → (x : Value) → to_of zs q x ≡ number n
    some_at P [] pairs m x = absurd m
    some_at P (y ∷ ys) pairs (inl e) x =
        ap (to_of ys q) (ap (λ (w : Moving). axis (slice_get rules w.given.variable) w.given w.value q x) (sym e) ∙ own_axis x)
        ∙ none_at ys q (none_there z ys r is q inside (subst (λ w. Each KeysApart w ys) (sym e) pairs.1.0)) (number n)
    some_at P (y ∷ ys) pairs (inr m) x = some_at P ys pairs.1.1 m (axis (slice_get rules y.given.variable) y.given y.value q x)

  -- Inputs that share no day have no key in common.

  -- the period of an eternal variable is the eternal one
  abbrev pub IsNormal : Given → Type 0
  IsNormal g = (r : Rule) → slice_get rules g.variable ≡ Some r → is_eternity r.unit ≡ true → g.period ≡ eternity

  keys_apart : (t u : Moving) → is_period t.given.period ≡ true → is_period u.given.period ≡ true → IsNormal t.given → IsNormal u.given → across t u ≡ false
      → KeysApart t u
  keys_apart t u own other normal ordinary apart r s is at q inside there =
      true≢false (sym (by (is_eternity s.unit) refl) ∙ apart)
    where
      variable : t.given.variable ≡ u.given.variable
      variable = sym (key_variable r t.given q inside) ∙ key_variable s u.given q there

      same : r ≡ s
      same = let found : Some r ≡ Some s = sym is ∙ (ap (slice_get rules) variable ∙ at) in cc

      by : (b : Bool) → is_eternity s.unit ≡ b → across t u ≡ true
      by true eternal =
          all_across t u variable (sym (key_member r t.given q inside) ∙ key_member s u.given q there)
          (ap₂ shares_day (normal r is (ap (λ (x : Rule). is_eternity x.unit) same ∙ eternal)) (ordinary s at eternal))
      by false finite =
          meets_common s.unit t u q
          (any_key s t.given q own finite (subst (λ (x : Rule). list_any (same_key q) (keys_of x t.given) ≡ true) same inside))
          (any_key s u.given q other finite there)

  -- All

  -- it is for a period, can be shared, and stands among those of the axes where one moves it
  pub record IsPlaced (zs : List Moving) (t : Moving) : Type 0 where
    pub sound : IsSound rules t
    pub normal : IsNormal t.given
    pub own : is_some t.value ≡ true → Among t zs

  abbrev pub IsMoved : Moving → Type 0
  IsMoved z = is_some z.value ≡ true

  module _ (counts : List ℕ) (given : List Given) (zs : List Moving) (distinct : Distinct (IsPlaced zs) given) (all : AllOf (IsPlaced zs) zs)
      (moved : (z : Moving) → Among z zs → IsMoved z) (none : NoneOverlaps given [] (map given_of zs)) where
    abbrev ts : List Moving
    ts = place_all (unmoved given) zs

    abbrev sorted : List Moving
    sorted = order_moving rules [] ts

    sorted_apart : Pairwise (IsPlaced zs) Apart sorted
    sorted_apart = sound_ordered rules (IsPlaced zs) Apart turned ts (with_axes_apart (IsPlaced zs) given zs distinct none all)

    zs_apart : Pairwise (IsPlaced zs) Apart zs
    zs_apart = all_apart (IsPlaced zs) (λ t p. p.sound.period) given [] zs all none

    in_sorted : (z : Moving) → Among z zs → Among z sorted
    in_sorted z m = among_order rules z [] ts (inr (all_placed (IsPlaced zs) (unmoved given) zs zs_apart z m))

    placed_apart : (t z : Moving) → IsPlaced zs t → IsPlaced zs z → Apart t z → IsMoved z → KeysApart t z
    placed_apart t z p q apart is =
        keys_apart t z p.sound.period q.sound.period p.normal q.normal (apart.days (or_right (is_some t.value) (is_some z.value) is))

    pub keys_of_zs : Pairwise (IsPlaced zs) KeysApart zs
    keys_of_zs =
        pairs_to (IsPlaced zs) Apart (IsPlaced zs) KeysApart zs (λ t m p. p)
        (λ t z m n apart. placed_apart t z (holds_at (IsPlaced zs) Apart zs zs_apart t m) (holds_at (IsPlaced zs) Apart zs zs_apart z n) apart (moved z n)) zs_apart

    -- what no axis moves has no key of one
    plain_apart : (t : Moving) → Among t sorted → is_some t.value ≡ false → Each KeysApart t zs
    plain_apart t m plain = each_from KeysApart t zs (λ z n.
        let other : t ≡ z → ⊥ = λ e. true≢false (sym (moved z n) ∙ (ap (λ (x : Moving). is_some x.value) (sym e) ∙ plain)) in
        placed_apart t z (holds_at (IsPlaced zs) Apart sorted sorted_apart t m) (holds_at (IsPlaced zs) Apart sorted sorted_apart z (in_sorted z n))
        (pair_at (IsPlaced zs) Apart turned sorted sorted_apart t z m (in_sorted z n) other) (moved z n))

    agrees_at : (t : Moving) → Among t sorted → (r : Rule) → slice_get rules t.given.variable ≡ Some r → Agrees (to_of zs) r t
    agrees_at t m r is q inside x = by t.value refl
      where
        by : (o : Option Number) → t.value ≡ o → Stands r t.given o x (to_of zs q x)
        by None e = none_at zs q (none_there t zs r is q inside (plain_apart t m (ap is_some e))) x
        by (Some v) e = λ n share.
            some_at t r is q inside v e n share (IsPlaced zs) zs keys_of_zs
            ((holds_at (IsPlaced zs) Apart sorted sorted_apart t m).own (ap is_some e)) x

    fit : Pairwise (IsFit rules (to_of zs) (to_even zs)) (Disjoint rules) sorted
    fit =
        pairs_to (CanShare rules) (Disjoint rules) (IsFit rules (to_of zs) (to_even zs)) (Disjoint rules) sorted (λ t m can. (can, agrees_at t m)) (λ t u m n d. d)
        (all_disjoint rules sorted (pairs_to (IsPlaced zs) Apart (IsSound rules) Apart sorted (λ t m p. p.sound) (λ t u m n a. a) sorted_apart))

    there_at : (es : Entries) (us : List Moving) → AllThere rules (to_of zs) (to_even zs) es us → (z : Moving) → Among z us
        → There rules (to_of zs) (to_even zs) es z
    there_at es [] there z m = absurd m
    there_at es (u ∷ us) there z (inl e) = subst (There rules (to_of zs) (to_even zs) es) (sym e) there.0
    there_at es (u ∷ us) there z (inr m) = there_at es us there.1 z m

    not_in : (q : Key) (us : List Moving) → ((z : Moving) → Among z us → NotAt q z) → NotIn q us
    not_in q [] out = tt
    not_in q (u ∷ us) out = (out u (inl refl), not_in q us (λ z m. out z (inr m)))

    still : (es : Entries) → AllThere rules (to_of zs) (to_even zs) es sorted → Still rules (to_of zs) (to_even zs) es
    still es there q free x = none_at zs q (not_in q zs (λ z m r is. by z m r is (list_any (same_key q) (keys_of r z.given)) refl)) x
      where
        by : (z : Moving) → Among z zs → (r : Rule) → slice_get rules z.given.variable ≡ Some r → (b : Bool)
            → list_any (same_key q) (keys_of r z.given) ≡ b → b ≡ false
        by z m r is true inside = absurd (true≢false (sym (there_at es sorted there z (in_sorted z m) r is (moved z m) q inside) ∙ free))
        by z m r is false out = refl

    pub inputs_turned : (es : Entries) → inputs_of rules counts (put_all_in given (map given_of zs)) ≡ Ok es
        → inputs_of rules counts (put_all_in given (map here zs)) ≡ Ok (set (to_of zs) es)
    inputs_turned es h =
        let read : put_all_in given (map given_of zs) ≡ map given_of ts =
        ap (λ gs. put_all_in gs (map given_of zs)) (sym (read_unmoved given)) ∙ sym (all_read (unmoved given) zs) in
        let at : map here ts ≡ put_all_in given (map here zs) = all_here (unmoved given) zs ∙ ap (λ gs. put_all_in gs (map here zs)) (here_unmoved given) in
        ap (inputs_of rules counts) (sym at)
        ∙ inputs_again rules (to_of zs) (to_even zs) counts ts fit still es (ap (inputs_of rules counts) (sym read) ∙ h)
