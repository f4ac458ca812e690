-- What a formula gives, cast to the type of its variable.
use Rattle.std.proofs.Common.{◌≡◌, sym, subst, ℕ, ℤ, pos, Bool, true, false, Option, Some, refl, if◌then◌else◌}
use Rattle.std.specs.Prelude.{Result, Ok, Err, not}
use Rattle.fisca_inputs.specs.Typed.{is_just, is_typed}
use Rattle.fisca_model.specs.Values.{Value, number, bool, member}
use Rattle.fisca_key_semantics.specs.Dialogues.{Dialogue, gives, fails, stuck, asks, ◌>>=◌, with_number, with_member, computed, too_wide}
use Rattle.fisca_typing.specs.Safe.{is_of, IsSafe}
use Rattle.fisca_typing.specs.Wellformed.{before_cast}
use Rattle.fisca_num.specs.Number.{Number, one_number, trunc_of, zero_number}
use Rattle.fisca_num.specs.Operations.{number_over}
use Rattle.fisca_num.specs.declared.faults.NumFault.{NumFault}
use Rattle.fisca_symbols.specs.KnownVariables.{value_type}
use Rattle.fisca_symbols.specs.declared.variable.DeclaredType.{DeclaredType}
use Rattle.fisca_symbols.specs.declared.variable.DeclaredType.TheVariants as type
use Rattle.fisca_model.specs.Tables.{Tables}
use Rattle.fisca_model.specs.declared.value_type.ValueType.{ValueType}
use Rattle.fisca_model.specs.declared.value_type.ValueType.TheVariants as vt
use Rattle.fisca_ops.specs.Casts.{cast}
use Rattle.fisca_ops.specs.Steps.Casts.{fits_int, if_int, is_zero}
use Rattle.fisca_simulation.specs.Sound.{GivesOnly}

-- a value of just a type is one of it
pub just_is_of : (c : Tables) (t : ValueType) (v : Value) → is_just c t v ≡ true → is_of c t v ≡ true
just_is_of c vt.Number (number n) h = refl
just_is_of c vt.Number (bool b) h = refl
just_is_of c vt.Number (member i) h = h
just_is_of c vt.Bool (number n) h = h
just_is_of c vt.Bool (bool b) h = refl
just_is_of c vt.Bool (member i) h = h
just_is_of c (vt.Enum e) (number n) h = h
just_is_of c (vt.Enum e) (bool b) h = h
just_is_of c (vt.Enum e) (member i) h = h

pub typed_is_of : (c : Tables) (o : Option ValueType) (s : ValueType) (v : Value) → o ≡ Some s → is_typed c o v ≡ true → is_of c s v ≡ true
typed_is_of c o s v e h = just_is_of c s v (subst (λ x. is_typed c x v ≡ true) e h)

-- a dialogue and what is made of its value
pub gives_then : (c : Tables) (t : ValueType) (P : Value → Type 0) (d : Dialogue) (f : Value → Dialogue) → IsSafe c t d
    → ((v : Value) → is_of c t v ≡ true → GivesOnly c P (f v)) → GivesOnly c P (d >>= f)
gives_then c t P (gives v) f h k = k v h
gives_then c t P (fails e) f h k = tt
gives_then c t P stuck f h k = absurd h
gives_then c t P (asks q g) f h k = (h.0, h.1, λ v i. gives_then c t P (g v) f (h.2 v i) k)

module _ (c : Tables) where
  abbrev Just : ValueType → Value → Type 0
  Just t w = is_just c t w ≡ true

  float : (v : Value) → is_of c vt.Number v ≡ true → GivesOnly c (Just vt.Number) (with_number v (λ n. gives (number n)))
  float (number n) h = refl
  float (bool true) h = refl
  float (bool false) h = refl
  float (member i) h = cc

  of_computed : (r : Result Number NumFault) → GivesOnly c (Just vt.Number) (computed r)
  of_computed (Ok n) = refl
  of_computed (Err e) = tt

  of_whole : (z : ℤ) → GivesOnly c (Just vt.Number) (if_int z)
  of_whole z = by (fits_int z)
    where
      by : (b : Bool) → GivesOnly c (Just vt.Number) (if b then computed (number_over z (pos 1)) else fails too_wide)
      by true = of_computed (number_over z (pos 1))
      by false = tt

  int : (v : Value) → is_of c vt.Number v ≡ true → GivesOnly c (Just vt.Number) (with_number v (λ n. if_int (trunc_of n)))
  int (number n) h = of_whole (trunc_of n)
  int (bool true) h = of_whole (trunc_of one_number)
  int (bool false) h = of_whole (trunc_of zero_number)
  int (member i) h = cc

  truth : (v : Value) → is_of c vt.Number v ≡ true → GivesOnly c (Just vt.Bool) (with_number v (λ n. gives (bool (not (is_zero n)))))
  truth (number n) h = refl
  truth (bool true) h = refl
  truth (bool false) h = refl
  truth (member i) h = cc

  choice : (e : ℕ) (v : Value) → is_of c (vt.Enum e) v ≡ true → GivesOnly c (Just (vt.Enum e)) (with_member v (λ i. gives (member i)))
  choice e (number n) h = cc
  choice e (bool b) h = cc
  choice e (member i) h = h

  before : (t u : ValueType) (v : Value) → ◌≡◌ {A = Option ValueType} (Some t) (Some u) → is_of c (before_cast u) v ≡ true → is_of c (before_cast t) v ≡ true
  before t u v e h = let same : t ≡ u = cc in subst (λ x. is_of c (before_cast x) v ≡ true) (sym same) h

  -- a cast gives a value of its type or tells a fault
  pub cast_gives : (d : DeclaredType) (t : ValueType) → value_type d ≡ Some t → (v : Value) → is_of c (before_cast t) v ≡ true
      → GivesOnly c (λ w. is_typed c (value_type d) w ≡ true) (cast d v)
  cast_gives type.Float t e v h = float v (before vt.Number t v e h)
  cast_gives type.Int t e v h = int v (before vt.Number t v e h)
  cast_gives type.Bool t e v h = truth v (before vt.Bool t v e h)
  cast_gives type.Date t e v h = cc
  cast_gives type.Text t e v h = cc
  cast_gives (type.Enum i) t e v h = choice i v (before (vt.Enum i) t v e h)
