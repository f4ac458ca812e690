-- Inputs rest they are given, and one that is put in among them.
use Rattle.std.proofs.Common.{◌≡◌, true≢false, ℕ, List, [], ◌∷◌, ◌++◌, Bool, true, false, not, Option, Some, slice_get, refl, sym, ap, ap₂, subst, ◌∙◌, if◌then◌else◌, ◌||◌, ◌&&◌}
use Rattle.std.specs.Prelude.{Ok, Err}
use Rattle.std.specs.List.{list_any}
use Rattle.std.specs.Ordering.{eq_by_cmp}
use Rattle.std.proofs.lemmas.Bool.{or_parts}
use Rattle.fisca_inputs.proofs.Numbered.{key_parts}
use Rattle.fisca_inputs.specs.Entries.{key, same_key}
use Rattle.fisca_inputs.specs.Faults.{at_line}
use Rattle.fisca_inputs.specs.Inputs.{key_given}
use Rattle.fisca_inputs.specs.Steps.Overlaps.{is_across, is_other, overlaps}
use Rattle.fisca_inputs.specs.Typed.{GivensTyped, IsValueOf, is_typed}
use Rattle.fisca_inputs.specs.declared.fault.SituationKind.TheVariants.{InconsistentInput}
use Rattle.fisca_inputs.specs.declared.given.Given.{Given}
use Rattle.fisca_model.specs.Periods.{is_eternity, key_period}
use Rattle.fisca_model.specs.Seen.{value_seen}
use Rattle.fisca_model.specs.Tables.{variable_type}
use Rattle.fisca_model.specs.Values as meaning
use Rattle.fisca_model.specs.contracts.key.KeyEq.TheImpl.Laws.{laws-law}
use Rattle.fisca_model.specs.declared.key.Key.{Key}
use Rattle.fisca_model.specs.declared.value_type.ValueType.TheVariants as vt
use Rattle.fisca_num.specs.Number.{Number}
use Rattle.fisca_api.specs.Axes.{AreApart, AreGiven, HasPeriod, IsGiven, IsMoved, IsOther, input_with, own_period}
use Rattle.fisca_run.proofs.Reading.{IsKept, all_kept}
use Rattle.fisca_situations.proofs.Typed.{known_type, read_all_typed}
use Rattle.fisca_situations.specs.Steps.Axes.{put_in}
use Rattle.fisca_situations.specs.Steps.Situations.{reading_of}
use Rattle.fisca_situations.specs.Steps.Slots.{has_numbers}
use Rattle.fisca_situations.specs.declared.reading.Reading.{Reading}
use Rattle.fisca_slots.proofs.Placed.{equal_turned, shares_turned}
use Rattle.fisca_slots.proofs.Standing.{same_period}
use Rattle.fisca_symbols.specs.Known.{tables as known}
use Rattle.fisca_symbols.specs.KnownVariables.{value_type}
use Rattle.fisca_symbols.specs.declared.tables.Tables.{Tables}
use Rattle.fisca_symbols.specs.declared.variable.DeclaredType.{DeclaredType}
use Rattle.fisca_symbols.specs.declared.variable.DeclaredType.TheVariants as type
use Rattle.fisca_symbols.specs.declared.variable.Variable.{Variable}
use Rattle.fisca_time.specs.Period.{Span, eternity, is_period, span_cmp}
use Rattle.fisca_time.specs.declared.unit.Unit.{Unit}
use Rattle.fisca_time.specs.declared.unit.Unit.TheVariants.{Day, Month, Year, Eternity}
use Rattle.fisca_yaml.specs.Node.{Node}

-- Periods

key_is_period : (u : Unit) (p : Span) → is_period p ≡ true → is_period (key_period u p) ≡ true
key_is_period Day p h = h
key_is_period Month p h = h
key_is_period Year p h = h
key_is_period Eternity p h = refl

key_eternal : (u : Unit) (p : Span) → is_eternity u ≡ true → key_period u p ≡ eternity
key_eternal Day p h = cc
key_eternal Month p h = cc
key_eternal Year p h = cc
key_eternal Eternity p h = refl

-- Putting in

-- of one variable, member and period
abbrev pub is_same : Given → Given → Bool
is_same g h = same_key (key_given g) (key_given h)

same_turned : (g h : Given) → is_same g h ≡ is_same h g
same_turned g h = laws-law.symm (key_given g) (key_given h)

-- what is the same rest the one is the same rest the other
same_through : (g h k : Given) → is_same g h ≡ true → is_same g k ≡ is_same h k
same_through g h k e = laws-law.congr (key_given g) (key_given h) (key_given k) e

first_same : (a b : Given) (rest others : List Given) → a ∷ rest ≡ b ∷ others → a ≡ b
first_same a b rest others e = cc

rest_same : (a b : Given) (rest others : List Given) → a ∷ rest ≡ b ∷ others → rest ≡ others
rest_same a b rest others e = cc

-- put in the place of one of its key
pub put_over : (gs : List Given) (g h : Given) → is_same g h ≡ true → put_in (put_in gs g) h ≡ put_in gs h
put_over [] g h same = ap (λ b. if b then h ∷ [] else g ∷ h ∷ []) same
put_over (a ∷ rest) g h same = by (is_same a g) (is_same a h) alike (put_over rest g h same) refl
  where
    alike : is_same a g ≡ is_same a h
    alike = same_turned a g ∙ (same_through g h a same ∙ same_turned h a)

    by : (b c : Bool) → b ≡ c → put_in (put_in rest g) h ≡ put_in rest h → is_same a h ≡ c
        → put_in (if b then g ∷ rest else a ∷ put_in rest g) h ≡ (if c then h ∷ rest else a ∷ put_in rest h)
    by true true e more is = ap (λ b. if b then h ∷ rest else g ∷ put_in rest h) same
    by true false e more is = cc
    by false true e more is = cc
    by false false e more is = ap (λ b. if b then h ∷ put_in rest g else a ∷ put_in (put_in rest g) h) is ∙ ap (λ xs. a ∷ xs) more

-- what is among them stays where one of another key is put in
pub put_beside : (gs : List Given) (g h : Given) → is_same g h ≡ false → put_in gs h ≡ gs → put_in (put_in gs g) h ≡ put_in gs g
put_beside [] g h other among = cc
put_beside (a ∷ rest) g h other among = by (is_same a g) (is_same a h) refl refl among (put_beside rest g h other)
  where
    by : (b c : Bool) → is_same a g ≡ b → is_same a h ≡ c → (if c then h ∷ rest else a ∷ put_in rest h) ≡ a ∷ rest
        → (put_in rest h ≡ rest → put_in (put_in rest g) h ≡ put_in rest g)
        → put_in (if b then g ∷ rest else a ∷ put_in rest g) h ≡ (if b then g ∷ rest else a ∷ put_in rest g)
    by true true e f there later = absurd (true≢false (sym (sym (same_through a g h e) ∙ f) ∙ other))
    by true false e f there later =
        ap (λ b. if b then h ∷ rest else g ∷ put_in rest h) other ∙ ap (λ xs. g ∷ xs) (rest_same a a (put_in rest h) rest there)
    by false true e f there later =
        ap (λ b. if b then h ∷ put_in rest g else a ∷ put_in (put_in rest g) h) f ∙ ap (λ x. x ∷ put_in rest g) (first_same h a rest rest there)
    by false false e f there later =
        ap (λ b. if b then h ∷ put_in rest g else a ∷ put_in (put_in rest g) h) f ∙ ap (λ xs. a ∷ xs) (later (rest_same a a (put_in rest h) rest there))

-- what holds of none of them holds not of one that is among them
pub none_among : (test : Given → Bool) (gs : List Given) (h : Given) → list_any test gs ≡ false → put_in gs h ≡ gs → test h ≡ false
none_among test [] h none among = cc
none_among test (a ∷ rest) h none among =
    let parts = or_parts (test a) (list_any test rest) none in
    by (is_same a h) among parts.0 (none_among test rest h parts.1)
  where
    by : (c : Bool) → (if c then h ∷ rest else a ∷ put_in rest h) ≡ a ∷ rest → test a ≡ false → (put_in rest h ≡ rest → test h ≡ false) → test h ≡ false
    by true there first later = ap test (first_same h a rest rest there) ∙ first
    by false there first later = later (rest_same a a (put_in rest h) rest there)

none_put : (test : Given → Bool) (gs : List Given) (g : Given) → list_any test gs ≡ false → test g ≡ false → list_any test (put_in gs g) ≡ false
none_put test [] g none one = ap (λ b. b || false) one
none_put test (a ∷ rest) g none one =
    let parts = or_parts (test a) (list_any test rest) none in
    by (is_same a g) parts.0 parts.1 (none_put test rest g parts.1 one)
  where
    by : (b : Bool) → test a ≡ false → list_any test rest ≡ false → list_any test (put_in rest g) ≡ false
        → list_any test (if b then g ∷ rest else a ∷ put_in rest g) ≡ false
    by true first later more = ap₂ (λ x y. x || y) one later
    by false first rest more = ap₂ (λ x y. x || y) first more

-- Days in common

equal_periods : (p q : Span) → eq_by_cmp span_cmp p q ≡ eq_by_cmp span_cmp q p
equal_periods p q = laws-law.symm (key 0 0 p) (key 0 0 q)

-- another input of a day that one of this variable and member has
abbrev crosses : Given → Given → Bool
crosses g h = is_across g.variable g.member g.period h && is_other g.period h

crosses_turned : (g h : Given) → crosses g h ≡ crosses h g
crosses_turned g h =
    ap₂ (λ a b. a && b)
    (ap₂ (λ a b. a && b) (equal_turned h.variable g.variable) (ap₂ (λ a b. a && b) (equal_turned h.member g.member) (shares_turned h.period g.period)))
    (ap not (equal_periods h.period g.period))

-- an input of the very key crosses none
crosses_same : (g h : Given) → is_same g h ≡ true → crosses g h ≡ false
crosses_same g h same =
    let parts = key_parts (key_given g) (key_given h) same in
    by (is_across g.variable g.member g.period h) (sym (equal_periods g.period h.period) ∙ parts.2)
  where
    by : (a : Bool) → eq_by_cmp span_cmp h.period g.period ≡ true → (a && is_other g.period h) ≡ false
    by true e = ap not e
    by false e = refl

-- All

module _ (c : Tables) where
  other_put : (a g : Given) (gs : List Given) → IsOther a gs → is_same a g ≡ false → IsOther a (put_in gs g)
  other_put a g [] all one = (one, tt)
  other_put a g (h ∷ gs) all one = by (is_same h g) (other_put a g gs all.1 one)
    where
      by : (b : Bool) → IsOther a (put_in gs g) → IsOther a (if b then g ∷ gs else h ∷ put_in gs g)
      by true more = (one, all.1)
      by false more = (all.0, more)

  other_same : (a g : Given) (gs : List Given) → is_same a g ≡ true → IsOther a gs → IsOther g gs
  other_same a g [] same all = tt
  other_same a g (h ∷ gs) same all = (sym (same_through a g h same) ∙ all.0, other_same a g gs same all.1)

  pub apart_put : (gs : List Given) (g : Given) → AreApart c gs → IsGiven c g → AreApart c (put_in gs g)
  apart_put [] g all is = (is, (tt, tt))
  apart_put (a ∷ rest) g all is = by (is_same a g) refl (apart_put rest g all.1.1 is)
    where
      by : (b : Bool) → is_same a g ≡ b → AreApart c (put_in rest g) → AreApart c (if b then g ∷ rest else a ∷ put_in rest g)
      by true same more = (is, (other_same a g rest same all.1.0, all.1.1))
      by false other more = (all.0, (other_put a g rest all.1.0 other, more))

  pub typed_put : (gs : List Given) (g : Given) → GivensTyped (known c) gs → IsValueOf (known c) g.variable (value_seen g.value) → GivensTyped (known c) (put_in gs g)
  typed_put [] g ts t = (t, tt)
  typed_put (a ∷ rest) g ts t = by (is_same a g) (typed_put rest g ts.1 t)
    where
      by : (b : Bool) → GivensTyped (known c) (put_in rest g) → GivensTyped (known c) (if b then g ∷ rest else a ∷ put_in rest g)
      by true more = (t, ts.1)
      by false more = (ts.0, more)

  -- Numbers

  of_numbers : (d : DeclaredType) → has_numbers d ≡ true → value_type d ≡ Some vt.Number
  of_numbers type.Float h = refl
  of_numbers type.Int h = refl
  of_numbers type.Bool h = cc
  of_numbers type.Date h = cc
  of_numbers type.Text h = cc
  of_numbers (type.Enum e) h = cc

  pub has_type : (x : Variable) (place : ℕ) → slice_get c.variables place ≡ Some x → has_numbers x.value_type ≡ true
      → variable_type (known c) place ≡ Some vt.Number
  has_type x place declared numbers = known_type c.variables place x declared ∙ of_numbers x.value_type numbers

  input_typed : (x : Variable) (k : Key) (n : Number) → slice_get c.variables k.variable ≡ Some x → has_numbers x.value_type ≡ true
      → IsValueOf (known c) k.variable (meaning.number n)
  input_typed x k n declared numbers = subst (λ t. is_typed (known c) t (meaning.number n) ≡ true) (sym (has_type x k.variable declared numbers)) refl

  pub input_given : (x : Variable) (k : Key) (n : Number) → is_period k.period ≡ true → slice_get c.variables k.variable ≡ Some x → IsGiven c (input_with x k n)
  input_given x k n period declared = record {
    period = key_is_period x.definition_period k.period period;
    eternal = λ y at eternal.
        let found : Some x ≡ Some y = sym declared ∙ at in
        let same : x ≡ y = cc in
        key_eternal x.definition_period k.period (ap (λ (v : Variable). is_eternity v.definition_period) same ∙ eternal);
  }

  pub given_put : (gs : List Given) (x : Variable) (k : Key) (n : Number) → AreGiven c gs → is_period k.period ≡ true → slice_get c.variables k.variable ≡ Some x
      → has_numbers x.value_type ≡ true → AreGiven c (put_in gs (input_with x k n))
  given_put gs x k n given period declared numbers = record {
    apart = apart_put gs (input_with x k n) given.apart (input_given x k n period declared);
    typed = typed_put gs (input_with x k n) given.typed (input_typed x k n declared numbers);
  }

  -- The inputs of axes

  -- inputs of one key differ in nothing but their values
  same_input : (x y : Variable) (k j : Key) (m n : Number) → is_period k.period ≡ true → is_period j.period ≡ true
      → is_same (input_with x k m) (input_with y j n) ≡ true → input_with y j m ≡ input_with x k m
  same_input x y k j m n own other same =
      let parts = key_parts (key_given (input_with x k m)) (key_given (input_with y j n)) same in
      let period = same_period (own_period x k) (own_period y j) (key_is_period x.definition_period k.period own) (key_is_period y.definition_period j.period other) parts.2 in
      λ i. record { variable = sym parts.0 i; member = sym parts.1 i; period = sym period i; value = (input_with x k m).value; line = 0 }

  -- where an input is put in, that of an axis stays, or has its value
  pub moved_put : (gs : List Given) (x y : Variable) (k j : Key) (n : Number) → is_period k.period ≡ true
      → overlaps gs k.variable k.member (own_period x k) ≡ false → IsMoved c gs y j → IsMoved c (put_in gs (input_with x k n)) y j
  moved_put gs x y k j n period alone moved = by (is_same g h) refl
    where
      g : Given
      g = input_with x k n

      h : Given
      h = input_with y j moved.value

      apart : crosses h g ≡ false
      apart = crosses_turned h g ∙ none_among (crosses g) gs h alone moved.among

      still : overlaps (put_in gs g) j.variable j.member (own_period y j) ≡ false
      still = none_put (crosses h) gs g moved.alone apart

      by : (b : Bool) → is_same g h ≡ b → IsMoved c (put_in gs g) y j
      by true same = record {
        period = moved.period;
        declared = moved.declared;
        numbers = moved.numbers;
        alone = still;
        value = n;
        among = ap (put_in (put_in gs g)) (same_input x y k j n moved.value period moved.period same) ∙ put_over gs g g (laws-law.refl (key_given g));
      }
      by false other = record {
        period = moved.period;
        declared = moved.declared;
        numbers = moved.numbers;
        alone = still;
        value = moved.value;
        among = put_beside gs g h other moved.among;
      }

  -- the input itself
  pub own_put : (gs : List Given) (x : Variable) (k : Key) (n : Number) → is_period k.period ≡ true → slice_get c.variables k.variable ≡ Some x
      → has_numbers x.value_type ≡ true → overlaps gs k.variable k.member (own_period x k) ≡ false → IsMoved c (put_in gs (input_with x k n)) x k
  own_put gs x k n period declared numbers alone =
      let g = input_with x k n in
      record {
        period = period;
        declared = declared;
        numbers = numbers;
        alone = none_put (crosses g) gs g alone (crosses_same g g (laws-law.refl (key_given g)));
        value = n;
        among = put_over gs g g (laws-law.refl (key_given g));
      }

-- What is read

other_behind : (a g : Given) (gs : List Given) → IsOther a gs → is_same a g ≡ false → IsOther a (gs ++ g ∷ [])
other_behind a g [] all one = (one, tt)
other_behind a g (h ∷ gs) all one = (all.0, other_behind a g gs all.1 one)

apart_behind : (c : Tables) (gs : List Given) (g : Given) → AreApart c gs → IsGiven c g → list_any (is_same g) gs ≡ false → AreApart c (gs ++ g ∷ [])
apart_behind c [] g all is other = (is, (tt, tt))
apart_behind c (a ∷ rest) g all is other =
    let parts = or_parts (is_same g a) (list_any (is_same g) rest) other in
    (all.0, (other_behind a g rest all.1.0 (same_turned a g ∙ parts.0), apart_behind c rest g all.1.1 is parts.1))

kept_apart : (c : Tables) → IsKept c (AreApart c)
kept_apart c x p line n w gs hs there period is all h = by (list_any (is_same g) gs) refl h
  where
    g : Given
    g = record { variable = x.variable; member = x.member; period = key_period x.declared.definition_period p; value = w; line = line }

    given : IsGiven c g
    given = record {
      period = key_is_period x.declared.definition_period p period;
      eternal = λ y at eternal.
          let found : Some x.declared ≡ Some y = sym there ∙ at in
          let same : x.declared ≡ y = cc in
          key_eternal x.declared.definition_period p (ap (λ (v : Variable). is_eternity v.definition_period) same ∙ eternal);
    }

    by : (b : Bool) → list_any (is_same g) gs ≡ b → (if b then Err (at_line line InconsistentInput) else Ok (gs ++ g ∷ [])) ≡ Ok hs → AreApart c hs
    by true met e = cc
    by false other e = let same : gs ++ g ∷ [] ≡ hs = cc in subst (AreApart c) same (apart_behind c gs g all given other)

pub read_given : (c : Tables) (default : Option Span) (line : ℕ) (n : Node) (r : Reading) → HasPeriod default → reading_of c default line n ≡ Ok r → AreGiven c r.given
read_given c default line n r periods h = record {
  apart = all_kept c default periods (AreApart c) (kept_apart c) line n r tt h;
  typed = read_all_typed c default line n r h;
}
