-- Inputs with those of axes put in: two that an axis moves, or one that it moves and one that is given, share no day.
use Rattle.std.proofs.Common.{◌≡◌, ℕ, List, [], ◌∷◌, ◌++◌, map, Bool, true, false, not, None, is_some, refl, sym, ap, ap₂, ◌∙◌, if◌then◌else◌, ◌||◌, ◌&&◌}
use Rattle.std.specs.Prelude.{⊤, ◌==◌}
use Rattle.std.specs.Cmp.{both_ways}
use Rattle.std.specs.List.{list_any}
use Rattle.std.specs.Ordering.{eq_by_cmp}
use Rattle.std.proofs.lemmas.Bool.{eqb-true, eq-eqb, or_parts}
use Rattle.std.proofs.lemmas.List.Folds.{list_any-append}
use Rattle.fisca_inputs.specs.Entries.{same_key}
use Rattle.fisca_inputs.specs.Inputs.{key_given}
use Rattle.fisca_model.specs.contracts.key.KeyEq.TheImpl.Laws.{laws-law}
use Rattle.fisca_inputs.specs.declared.given.Given.{Given}
use Rattle.fisca_model.specs.declared.key.Key.{Key}
use Rattle.fisca_slots.proofs.Both.{Moving, here}
use Rattle.fisca_slots.proofs.Shared.{Each, Pairwise, given_of}
use Rattle.fisca_situations.specs.AllAxes.{is_overlap, put_all_in}
use Rattle.fisca_situations.specs.Steps.Axes.{put_in}
use Rattle.fisca_inputs.specs.Overlaps.{shares_day, starts_before}
use Rattle.fisca_inputs.specs.Steps.Overlaps.{is_across, is_other, meets, overlaps}
use Rattle.fisca_time.specs.Period.{Span, span_cmp}

abbrev pub key_of : Moving → Key
key_of t = key_given t.given

-- of one variable and member, and for periods that share a day
abbrev pub across : Moving → Moving → Bool
across t u = is_across u.given.variable u.given.member u.given.period t.given

pub record Apart (t u : Moving) : Type 0 where
  pub keys : same_key (key_of t) (key_of u) ≡ false
  pub days : (is_some t.value || is_some u.value) ≡ true → across t u ≡ false

either_way : (a b : Bool) → (a || b) ≡ (b || a)
either_way true true = refl
either_way true false = refl
either_way false true = refl
either_way false false = refl

pub equal_turned : (x y : ℕ) → (x == y) ≡ (y == x)
equal_turned x y = both_ways (x == y) (y == x) (λ h. eq-eqb y x (sym (eqb-true x y h))) (λ h. eq-eqb x y (sym (eqb-true y x h)))

pub shares_turned : (p q : Span) → shares_day p q ≡ shares_day q p
shares_turned p q = by (starts_before p p) (starts_before q q) (starts_before p q) (starts_before q p)
  where
    by : (a b c d : Bool) → ((a && b) && (c && d)) ≡ ((b && a) && (d && c))
    by true true true true = refl
    by true true true false = refl
    by true true false true = refl
    by true true false false = refl
    by true false c d = refl
    by false true c d = refl
    by false false c d = refl

across_turned : (t u : Moving) → across t u ≡ across u t
across_turned t u =
    ap₂ (λ a b. a && b) (equal_turned t.given.variable u.given.variable)
    (ap₂ (λ a b. a && b) (equal_turned t.given.member u.given.member) (shares_turned t.given.period u.given.period))

pub turned : (t u : Moving) → Apart t u → Apart u t
turned t u apart = record {
  keys = laws-law.symm (key_of u) (key_of t) ∙ apart.keys;
  days = λ moved. across_turned u t ∙ apart.days (either_way (is_some t.value) (is_some u.value) ∙ moved);
}

-- Putting

abbrev pub place : List Moving → Moving → List Moving
place [] z = z ∷ []
place (t ∷ ts) z = if same_key (key_of t) (key_of z) then z ∷ ts else t ∷ place ts z

abbrev pub place_all : List Moving → List Moving → List Moving
place_all ts [] = ts
place_all ts (z ∷ zs) = place_all (place ts z) zs

place_read : (ts : List Moving) (z : Moving) → map given_of (place ts z) ≡ put_in (map given_of ts) z.given
place_read [] z = refl
place_read (t ∷ ts) z = by (same_key (key_of t) (key_of z)) (place_read ts z)
  where
    by : (b : Bool) → map given_of (place ts z) ≡ put_in (map given_of ts) z.given
        → map given_of (if b then z ∷ ts else t ∷ place ts z) ≡ (if b then z.given ∷ map given_of ts else t.given ∷ put_in (map given_of ts) z.given)
    by true e = refl
    by false e = ap (λ gs. t.given ∷ gs) e

place_here : (ts : List Moving) (z : Moving) → map here (place ts z) ≡ put_in (map here ts) (here z)
place_here [] z = refl
place_here (t ∷ ts) z = by (same_key (key_of t) (key_of z)) (place_here ts z)
  where
    by : (b : Bool) → map here (place ts z) ≡ put_in (map here ts) (here z)
        → map here (if b then z ∷ ts else t ∷ place ts z) ≡ (if b then here z ∷ map here ts else here t ∷ put_in (map here ts) (here z))
    by true e = refl
    by false e = ap (λ gs. here t ∷ gs) e

pub all_read : (ts zs : List Moving) → map given_of (place_all ts zs) ≡ put_all_in (map given_of ts) (map given_of zs)
all_read ts [] = refl
all_read ts (z ∷ zs) = all_read (place ts z) zs ∙ ap (λ gs. put_all_in gs (map given_of zs)) (place_read ts z)

pub all_here : (ts zs : List Moving) → map here (place_all ts zs) ≡ put_all_in (map here ts) (map here zs)
all_here ts [] = refl
all_here ts (z ∷ zs) = all_here (place ts z) zs ∙ ap (λ gs. put_all_in gs (map here zs)) (place_here ts z)

-- Apart

-- what is for a day of it is for just its period
alone_across : (t z : Moving) → (across t z && is_other z.given.period t.given) ≡ false → same_key (key_of t) (key_of z) ≡ false → across t z ≡ false
alone_across t z =
    by (t.given.variable == z.given.variable) (t.given.member == z.given.member) (shares_day t.given.period z.given.period)
    (eq_by_cmp span_cmp t.given.period z.given.period)
  where
    by : (a b s e : Bool) → ((a && (b && s)) && not e) ≡ false → (a && (b && e)) ≡ false → (a && (b && s)) ≡ false
    by true true true true h k = k
    by true true true false h k = h
    by true true false e h k = refl
    by true false s e h k = refl
    by false b s e h k = refl

apart_from_new : (t z : Moving) → (across t z && is_other z.given.period t.given) ≡ false → same_key (key_of t) (key_of z) ≡ false → Apart t z
apart_from_new t z other distinct = record { keys = distinct; days = λ moved. alone_across t z other distinct }

-- the key of what was replaced is that of the new one
replaced : (t z u : Moving) → same_key (key_of t) (key_of z) ≡ true → Apart t u → same_key (key_of u) (key_of z) ≡ false
replaced t z u same apart = laws-law.symm (key_of u) (key_of z) ∙ (sym (laws-law.congr (key_of t) (key_of z) (key_of u) same) ∙ apart.keys)

-- Given inputs

abbrev pub unmoved : List Given → List Moving
unmoved = map (λ g. record { given = g; value = None })

pub read_unmoved : (gs : List Given) → map given_of (unmoved gs) ≡ gs
read_unmoved [] = refl
read_unmoved (g ∷ gs) = ap (λ hs. g ∷ hs) (read_unmoved gs)

pub here_unmoved : (gs : List Given) → map here (unmoved gs) ≡ gs
here_unmoved [] = refl
here_unmoved (g ∷ gs) = ap (λ hs. g ∷ hs) (here_unmoved gs)

-- what meets none before, and overlaps none that is given
abbrev pub NoneOverlaps : List Given → List Given → List Given → Type 0
NoneOverlaps given before [] = ⊤
NoneOverlaps given before (g ∷ gs) = (is_overlap given before g ≡ false) × NoneOverlaps given (before ++ g ∷ []) gs

met_none : (x m : ℕ) (p : Span) (gs : List Given) → meets gs x m p ≡ false → overlaps gs x m p ≡ false
met_none x m p [] none = refl
met_none x m p (g ∷ gs) none =
    let parts = or_parts (is_across x m p g) (meets gs x m p) none in
    ap₂ (λ a b. a || b) (ap (λ a. a && is_other p g) parts.0) (met_none x m p gs parts.1)

module _ (P : Moving → Type 0) where
  each_placed : (x z : Moving) (ts : List Moving) → Each Apart x ts → Apart x z → Each Apart x (place ts z)
  each_placed x z [] all one = (one, tt)
  each_placed x z (t ∷ ts) all one = by (same_key (key_of t) (key_of z)) (each_placed x z ts all.1 one)
    where
      by : (b : Bool) → Each Apart x (place ts z) → Each Apart x (if b then z ∷ ts else t ∷ place ts z)
      by true more = (one, all.1)
      by false more = (all.0, more)

  each_replaced : (t z : Moving) (us : List Moving) → same_key (key_of t) (key_of z) ≡ true → Each Apart t us
      → overlaps (map given_of us) z.given.variable z.given.member z.given.period ≡ false
      → Each Apart z us
  each_replaced t z [] same all others = tt
  each_replaced t z (u ∷ us) same all others =
      let parts =
      or_parts (across u z && is_other z.given.period u.given) (overlaps (map given_of us) z.given.variable z.given.member z.given.period) others in
      (turned u z (apart_from_new u z parts.0 (replaced t z u same all.0)), each_replaced t z us same all.1 parts.1)

  placed_apart : (ts : List Moving) (z : Moving) → Pairwise P Apart ts → P z → overlaps (map given_of ts) z.given.variable z.given.member z.given.period ≡ false
      → Pairwise P Apart (place ts z)
  placed_apart [] z sound p others = (p, (tt, tt))
  placed_apart (t ∷ ts) z sound p others = by (same_key (key_of t) (key_of z)) refl (placed_apart ts z sound.1.1 p parts.1)
    where
      parts : ((across t z && is_other z.given.period t.given) ≡ false) × (overlaps (map given_of ts) z.given.variable z.given.member z.given.period ≡ false)
      parts = or_parts (across t z && is_other z.given.period t.given) (overlaps (map given_of ts) z.given.variable z.given.member z.given.period) others

      by : (b : Bool) → same_key (key_of t) (key_of z) ≡ b → Pairwise P Apart (place ts z) → Pairwise P Apart (if b then z ∷ ts else t ∷ place ts z)
      by true same more = (p, (each_replaced t z ts same sound.1.0 parts.1, sound.1.1))
      by false distinct more = (sound.0, (each_placed t z ts sound.1.0 (apart_from_new t z parts.0 distinct), more))

  -- each of these is given, or moved by an axis before
  abbrev IsOf : List Given → List Given → List Moving → Type 0
  IsOf given before ts = (test : Given → Bool) → list_any test given ≡ false → list_any test before ≡ false → list_any test (map given_of ts) ≡ false

  placed_of : (test : Given → Bool) (ts : List Moving) (z : Moving) → list_any test (map given_of ts) ≡ false → test z.given ≡ false
      → list_any test (map given_of (place ts z)) ≡ false
  placed_of test [] z none here_too = ap (λ b. b || false) here_too
  placed_of test (t ∷ ts) z none here_too =
      let parts = or_parts (test t.given) (list_any test (map given_of ts)) none in
      by (same_key (key_of t) (key_of z)) parts.0 parts.1 (placed_of test ts z parts.1 here_too)
    where
      by : (b : Bool) → test t.given ≡ false → list_any test (map given_of ts) ≡ false → list_any test (map given_of (place ts z)) ≡ false
          → list_any test (map given_of (if b then z ∷ ts else t ∷ place ts z)) ≡ false
      by true first later more = ap₂ (λ a b. a || b) here_too later
      by false first later more = ap₂ (λ a b. a || b) first more

  of_more : (given before : List Given) (ts : List Moving) (z : Moving) → IsOf given before ts → IsOf given (before ++ z.given ∷ []) (place ts z)
  of_more given before ts z of test none_given none_before =
      let parts = or_parts (list_any test before) (list_any test (z.given ∷ [])) (sym (list_any-append test before (z.given ∷ [])) ∙ none_before) in
      placed_of test ts z (of test none_given parts.0) (or_parts (test z.given) false parts.1).0

  abbrev pub AllOf : List Moving → Type 0
  AllOf [] = ⊤
  AllOf (t ∷ ts) = P t × AllOf ts

  all_placed : (given before : List Given) (ts zs : List Moving) → IsOf given before ts → NoneOverlaps given before (map given_of zs) → Pairwise P Apart ts
      → AllOf zs
      → Pairwise P Apart (place_all ts zs)
  all_placed given before ts [] of none sound all = sound
  all_placed given before ts (z ∷ zs) of none sound all =
      let x = z.given.variable in
      let m = z.given.member in
      let p = z.given.period in
      let parts = or_parts (meets before x m p) (overlaps given x m p) none.0 in
      let others = of (λ g. is_across x m p g && is_other p g) parts.1 (met_none x m p before parts.0) in
      all_placed given (before ++ z.given ∷ []) (place ts z) zs (of_more given before ts z of) none.1 (placed_apart ts z sound all.0 others) all.1

  -- inputs of which no two have one key
  abbrev pub Distinct : List Given → Type 0
  Distinct = Pairwise (λ g. P (record { given = g; value = None })) (λ g h. same_key (key_given g) (key_given h) ≡ false)

  each_unmoved : (g : Given) (gs : List Given) → Each (λ g h. same_key (key_given g) (key_given h) ≡ false) g gs
      → Each Apart (record { given = g; value = None }) (unmoved gs)
  each_unmoved g [] all = tt
  each_unmoved g (h ∷ hs) all = (record { keys = all.0; days = λ moved. cc }, each_unmoved g hs all.1)

  unmoved_apart : (gs : List Given) → Distinct gs → Pairwise P Apart (unmoved gs)
  unmoved_apart [] all = tt
  unmoved_apart (g ∷ gs) all = (all.0, (each_unmoved g gs all.1.0, unmoved_apart gs all.1.1))

  pub with_axes_apart : (given : List Given) (zs : List Moving) → Distinct given → NoneOverlaps given [] (map given_of zs) → AllOf zs
      → Pairwise P Apart (place_all (unmoved given) zs)
  with_axes_apart given zs distinct none all =
      all_placed given [] (unmoved given) zs (λ test none_given none_before. ap (list_any test) (read_unmoved given) ∙ none_given) none
      (unmoved_apart given distinct) all
