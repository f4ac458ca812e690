-- Slots that are turned: what stands at each key.
use Rattle.std.proofs.Common.{◌≡◌, ℕ, List, [], ◌∷◌, map, Bool, true, false, Option, Some, None, refl, sym, ap, ap₂, ◌∙◌, if◌then◌else◌}
use Rattle.std.specs.Prelude.{⊤, Result, Ok, Err, nat_lt, option_map}
use Rattle.std.specs.List.{list_any}
use Rattle.fisca_inputs.specs.Entries.{Entries, same_key, value_at}
use Rattle.fisca_model.specs.declared.value.Value.{Value}
use Rattle.fisca_model.specs.declared.value.Value.TheVariants.{Number as number}
use Rattle.fisca_model.specs.declared.key.Key.{Key}
use Rattle.fisca_num.specs.Number.{Number}
use Rattle.fisca_num.specs.declared.faults.NumFault.{NumFault}
use Rattle.fisca_slots.proofs.Anew.{Anew, IsEven, looked_set, same_there, set}
use Rattle.fisca_slots.proofs.Parts.{in_parts}
use Rattle.fisca_slots.proofs.Turned.{stand, stand_even, stand_out}
use Rattle.fisca_slots.proofs.SameWheels.{Same}
use Rattle.fisca_situations.proofs.Sets.{set_none}
use Rattle.fisca_slots.specs.Turning.{AreSamePlaces, IsSamePlace, turned_below}
use Rattle.fisca_situations.specs.Slots.{Slot}
use Rattle.fisca_situations.specs.Steps.Slots.{keys_of, set_share, share_in, turned}

-- One after another

pub set_twice : (to over : Anew) (es : Entries) → set over (set to es) ≡ set (λ k x. over k (to k x)) es
set_twice to over [] = refl
set_twice to over (e ∷ es) = ap (λ fs. (e.0, over e.0 (to e.0 e.1)) ∷ fs) (set_twice to over es)

pub set_alike : (to over : Anew) → ((k : Key) (x : Value) → to k x ≡ over k x) → (es : Entries) → set to es ≡ set over es
set_alike to over same [] = refl
set_alike to over same (e ∷ es) = ap₂ (λ x fs. (e.0, x) ∷ fs) (same e.0 e.1) (set_alike to over same es)

shared_is : (ks : List Key) (r : Result Number NumFault) (es : Entries) → set_share ks r es ≡ set (stand r ks) es
shared_is ks (Ok n) es = refl
shared_is ks (Err f) es = sym (set_none es)

pub turned_is : (s : Slot) (v : Number) (es : Entries) → turned s v es ≡ set (stand (share_in s v) (keys_of s)) es
turned_is s v es = shared_is (keys_of s) (share_in s v) es

-- What stands at a key where the slots of these wheels are turned

abbrev pub here_if : Bool → Slot → Number → Anew
here_if true s v k x = stand (share_in s v) (keys_of s) k x
here_if false s v k x = x

abbrev pub below : ℕ → List Slot → List Number → Anew
below wheel [] vs k x = x
below wheel (s ∷ ss) [] k x = x
below wheel (s ∷ ss) (v ∷ vs) k x = below wheel ss vs k (here_if (nat_lt s.wheel wheel) s v k x)

if_turned : (b : Bool) (s : Slot) (v : Number) (es : Entries) → (if b then turned s v es else es) ≡ set (here_if b s v) es
if_turned true s v es = turned_is s v es
if_turned false s v es = sym (set_none es)

pub below_is : (wheel : ℕ) (ss : List Slot) (vs : List Number) (es : Entries) → turned_below wheel ss vs es ≡ set (below wheel ss vs) es
below_is wheel [] vs es = sym (set_none es)
below_is wheel (s ∷ ss) [] es = sym (set_none es)
below_is wheel (s ∷ ss) (v ∷ vs) es =
    ap (turned_below wheel ss vs) (if_turned (nat_lt s.wheel wheel) s v es)
    ∙ (below_is wheel ss vs (set (here_if (nat_lt s.wheel wheel) s v) es) ∙ set_twice (here_if (nat_lt s.wheel wheel) s v) (below wheel ss vs) es)

here_even : (b : Bool) (s : Slot) (v : Number) → IsEven (here_if b s v)
here_even true s v j k e x = stand_even (share_in s v) (keys_of s) j k e x
here_even false s v j k e x = refl

pub below_even : (wheel : ℕ) (ss : List Slot) (vs : List Number) → IsEven (below wheel ss vs)
below_even wheel [] vs j k e x = refl
below_even wheel (s ∷ ss) [] j k e x = refl
below_even wheel (s ∷ ss) (v ∷ vs) j k e x =
    ap (below wheel ss vs j) (here_even (nat_lt s.wheel wheel) s v j k e x) ∙ below_even wheel ss vs j k e (here_if (nat_lt s.wheel wheel) s v k x)

-- Keys

abbrev pub is_at : Key → Slot → Bool
is_at k s = list_any (same_key k) (keys_of s)

here_out : (b : Bool) (s : Slot) (v : Number) (k : Key) → is_at k s ≡ false → (x : Value) → here_if b s v k x ≡ x
here_out true s v k out x = stand_out (share_in s v) (keys_of s) k out x
here_out false s v k out x = refl

here_in : (s : Slot) (v n : Number) (k : Key) → is_at k s ≡ true → share_in s v ≡ Ok n → (x : Value) → here_if true s v k x ≡ number n
here_in s v n k inside share x = ap (λ r. stand r (keys_of s) k x) share ∙ ap (λ b. if b then number n else x) inside

abbrev pub NoneAt : Key → List Slot → Type 0
NoneAt k [] = ⊤
NoneAt k (s ∷ ss) = (is_at k s ≡ false) × NoneAt k ss

below_out : (wheel : ℕ) (ss : List Slot) (vs : List Number) (k : Key) → NoneAt k ss → (x : Value) → below wheel ss vs k x ≡ x
below_out wheel [] vs k out x = refl
below_out wheel (s ∷ ss) [] k out x = refl
below_out wheel (s ∷ ss) (v ∷ vs) k out x =
    ap (below wheel ss vs k) (here_out (nat_lt s.wheel wheel) s v k out.0 x) ∙ below_out wheel ss vs k out.1 x

-- no key is of two slots
abbrev pub AreApart : List Slot → Type 0
AreApart [] = ⊤
AreApart (s ∷ ss) = ((k : Key) → is_at k s ≡ true → NoneAt k ss) × AreApart ss

-- the values of the axes can be shared among their keys
abbrev pub CanStand : List Slot → List Number → Type 0
CanStand [] vs = ⊤
CanStand (s ∷ ss) [] = ⊤
CanStand (s ∷ ss) (v ∷ vs) = ((k : Key) → is_at k s ≡ true → (n : Number) × (share_in s v ≡ Ok n)) × CanStand ss vs

abbrev pub wheels_in : List Slot → List ℕ
wheels_in = map (λ s. s.wheel)

abbrev pub AreBelow : ℕ → List Slot → Type 0
AreBelow wheel [] = ⊤
AreBelow wheel (s ∷ ss) = (nat_lt s.wheel wheel ≡ true) × AreBelow wheel ss

-- there is a value for each
abbrev pub IsLong : List Slot → List Number → Type 0
IsLong [] vs = ⊤
IsLong (s ∷ ss) [] = ⊥
IsLong (s ∷ ss) (v ∷ vs) = IsLong ss vs

-- where all were turned to the old values, it is enough to turn those whose values are new
below_again : (most wheel : ℕ) (ss : List Slot) (ps qs : List Number) → AreApart ss → AreBelow most ss → CanStand ss ps → CanStand ss qs
    → IsLong ss ps → IsLong ss qs → Same (λ w. nat_lt w wheel ≡ false) (wheels_in ss) ps qs → (k : Key) (x : Value)
    → below wheel ss qs k (below most ss ps k x) ≡ below most ss qs k x
below_again most wheel [] ps qs apart low old new long wide same k x = refl
below_again most wheel (s ∷ ss) [] qs apart low old new long wide same k x = absurd long
below_again most wheel (s ∷ ss) (p ∷ ps) [] apart low old new long wide same k x = absurd wide
below_again most wheel (s ∷ ss) (p ∷ ps) (q ∷ qs) apart low old new long wide same k x =
    by (below_again most wheel ss ps qs apart.1 low.1 old.1 new.1 long wide same.1 k x) (is_at k s) refl
  where
    at : is_at k s ≡ true → (a b : Number) → share_in s p ≡ Ok a → share_in s q ≡ Ok b → (now : Bool) → nat_lt s.wheel wheel ≡ now
        → here_if now s q k (number a) ≡ number b
    at inside a b one two true is = here_in s q b k inside two (number a)
    at inside a b one two false is =
        let value : p ≡ q = same.0 is in
        let shares : Ok a ≡ Ok b = sym one ∙ (ap (share_in s) value ∙ two) in
        let share : a ≡ b = cc in
        ap number share

    by : below wheel ss qs k (below most ss ps k x) ≡ below most ss qs k x → (b : Bool) → is_at k s ≡ b
        → below wheel ss qs k (here_if (nat_lt s.wheel wheel) s q k (below most ss ps k (here_if (nat_lt s.wheel most) s p k x)))
        ≡ below most ss qs k (here_if (nat_lt s.wheel most) s q k x)
    by later true inside =
        let none = apart.0 k inside in
        let a = old.0 k inside in
        let b = new.0 k inside in
        let first : here_if (nat_lt s.wheel most) s p k x ≡ number a.0 = ap (λ c. here_if c s p k x) low.0 ∙ here_in s p a.0 k inside a.1 x in
        let last : here_if (nat_lt s.wheel most) s q k x ≡ number b.0 = ap (λ c. here_if c s q k x) low.0 ∙ here_in s q b.0 k inside b.1 x in
        ap (λ y. below wheel ss qs k (here_if (nat_lt s.wheel wheel) s q k y)) (below_out most ss ps k none (here_if (nat_lt s.wheel most) s p k x) ∙ first)
        ∙ (below_out wheel ss qs k none (here_if (nat_lt s.wheel wheel) s q k (number a.0))
        ∙ (at inside a.0 b.0 a.1 b.1 (nat_lt s.wheel wheel) refl
        ∙ sym (below_out most ss qs k none (here_if (nat_lt s.wheel most) s q k x) ∙ last)))
    by later false out =
        ap (below wheel ss qs k) (here_out (nat_lt s.wheel wheel) s q k out (below most ss ps k (here_if (nat_lt s.wheel most) s p k x)))
        ∙ (ap (λ y. below wheel ss qs k (below most ss ps k y)) (here_out (nat_lt s.wheel most) s p k out x)
        ∙ (later
        ∙ ap (below most ss qs k) (sym (here_out (nat_lt s.wheel most) s q k out x))))

pub turned_again : (most wheel : ℕ) (ss : List Slot) (ps qs : List Number) (es : Entries) → AreApart ss → AreBelow most ss → CanStand ss ps → CanStand ss qs
    → IsLong ss ps → IsLong ss qs → Same (λ w. nat_lt w wheel ≡ false) (wheels_in ss) ps qs
    → turned_below wheel ss qs (turned_below most ss ps es) ≡ turned_below most ss qs es
turned_again most wheel ss ps qs es apart low old new long wide same =
    ap (turned_below wheel ss qs) (below_is most ss ps es)
    ∙ (below_is wheel ss qs (set (below most ss ps) es)
    ∙ (set_twice (below most ss ps) (below wheel ss qs) es
    ∙ (set_alike (λ k x. below wheel ss qs k (below most ss ps k x)) (below most ss qs) (below_again most wheel ss ps qs apart low old new long wide same) es
    ∙ sym (below_is most ss qs es))))

-- Keys that stay

-- a slot's keys are of its variable
other_variable : (k : Key) (s : Slot) → is_at k s ≡ true → s.variable ≡ k.variable
other_variable k s inside = sym (in_parts k s.variable s.member s.periods inside).0

pub turned_other : (s : Slot) (v : Number) (es : Entries) (k : Key) → (k.variable ≡ s.variable → ⊥) → value_at (turned s v es) k ≡ value_at es k
turned_other s v es k other =
    ap (λ fs. value_at fs k) (turned_is s v es)
    ∙ same_there (stand (share_in s v) (keys_of s)) (stand_even (share_in s v) (keys_of s)) es k (stand_out (share_in s v) (keys_of s) k (by (is_at k s) refl))
  where
    by : (b : Bool) → is_at k s ≡ b → b ≡ false
    by true inside = absurd (other (sym (other_variable k s inside)))
    by false out = refl

below_same : (wheel : ℕ) (here there : List ℕ) (ss : List Slot) (ps qs : List Number) (k : Key) → Same (IsSamePlace here there) (wheels_in ss) ps qs
    → IsLong ss ps → IsLong ss qs → AreSamePlaces here there ss k.variable → (x : Value) → below wheel ss ps k x ≡ below wheel ss qs k x
below_same wheel here there [] ps qs k same long wide places x = refl
below_same wheel here there (s ∷ ss) [] qs k same long wide places x = absurd long
below_same wheel here there (s ∷ ss) (p ∷ ps) [] k same long wide places x = absurd wide
below_same wheel here there (s ∷ ss) (p ∷ ps) (q ∷ qs) k same long wide places x =
    ap (below wheel ss ps k) (by (is_at k s) refl)
    ∙ below_same wheel here there ss ps qs k same.1 long wide places.1 (here_if (nat_lt s.wheel wheel) s q k x)
  where
    by : (b : Bool) → is_at k s ≡ b → here_if (nat_lt s.wheel wheel) s p k x ≡ here_if (nat_lt s.wheel wheel) s q k x
    by true inside = ap (λ v. here_if (nat_lt s.wheel wheel) s v k x) (same.0 (places.0 (other_variable k s inside)))
    by false out = here_out (nat_lt s.wheel wheel) s p k out x ∙ sym (here_out (nat_lt s.wheel wheel) s q k out x)

pub still_there : (wheel : ℕ) (here there : List ℕ) (ss : List Slot) (ps qs : List Number) (es : Entries) (k : Key)
    → Same (IsSamePlace here there) (wheels_in ss) ps qs → IsLong ss ps → IsLong ss qs → AreSamePlaces here there ss k.variable
    → value_at (turned_below wheel ss ps es) k ≡ value_at (turned_below wheel ss qs es) k
still_there wheel here there ss ps qs es k same long wide places =
    ap (λ fs. value_at fs k) (below_is wheel ss ps es)
    ∙ (looked_set (below wheel ss ps) (below_even wheel ss ps) es k
    ∙ (by (value_at es k)
    ∙ (sym (looked_set (below wheel ss qs) (below_even wheel ss qs) es k) ∙ ap (λ fs. value_at fs k) (sym (below_is wheel ss qs es)))))
  where
    by : (o : Option Value) → option_map (below wheel ss ps k) o ≡ option_map (below wheel ss qs k) o
    by None = refl
    by (Some x) = ap Some (below_same wheel here there ss ps qs k same long wide places x)
