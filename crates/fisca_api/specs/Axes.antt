-- Situations with axes put in: the inputs as they are given, and those of axes among them.
use Rattle.std.specs.Prelude.{◌≡◌, ⊤, ◌<◌, ◌≤◌, ℕ, List, [], ◌∷◌, true, false, Option, Some, slice_get, Ok}
use Rattle.fisca_inputs.specs.Entries.{same_key}
use Rattle.fisca_inputs.specs.Inputs.{key_given}
use Rattle.fisca_inputs.specs.Steps.Overlaps.{overlaps}
use Rattle.fisca_inputs.specs.Steps.Sharing.{part_ratio}
use Rattle.fisca_inputs.specs.Typed.{GivensTyped}
use Rattle.fisca_inputs.specs.declared.given.Given.{Given}
use Rattle.fisca_model.specs.Periods.{is_eternity, key_period}
use Rattle.fisca_model.specs.declared.key.Key.{Key}
use Rattle.fisca_model.specs.declared.value.Value.TheVariants as value
use Rattle.fisca_num.specs.Number.{Number}
use Rattle.fisca_num.specs.Operations.{number_of}
use Rattle.fisca_situations.specs.Steps.Axes.{put_in}
use Rattle.fisca_situations.specs.Steps.Slots.{has_numbers}
use Rattle.fisca_symbols.specs.Known.{tables as known}
use Rattle.fisca_symbols.specs.declared.tables.Tables.{Tables}
use Rattle.fisca_symbols.specs.declared.variable.Variable.{Variable}
use Rattle.fisca_time.specs.Period.{Span, eternity, is_period}

-- where there is a period, it is one of the calendar
abbrev pub HasPeriod : Option Span → Type 0
HasPeriod o = (p : Span) → o ≡ Some p → is_period p ≡ true

-- What is given

-- an input for a period; one of an eternal variable is for eternity
pub record IsGiven (c : Tables) (g : Given) : Type 0 where
  pub period : is_period g.period ≡ true
  pub eternal : (x : Variable) → slice_get c.variables g.variable ≡ Some x → is_eternity x.definition_period ≡ true → g.period ≡ eternity

-- another variable, member or period than each of these has
abbrev pub IsOther : Given → List Given → Type 0
IsOther g [] = ⊤
IsOther g (h ∷ hs) = (same_key (key_given g) (key_given h) ≡ false) × IsOther g hs

-- no two of one variable, member and period
abbrev pub AreApart : Tables → List Given → Type 0
AreApart c [] = ⊤
AreApart c (g ∷ gs) = IsGiven c g × (IsOther g gs × AreApart c gs)

-- inputs as they are given, each with a value of its variable's type
pub record AreGiven (c : Tables) (gs : List Given) : Type 0 where
  pub apart : AreApart c gs
  pub typed : GivensTyped (known c) gs

-- The input of an axis

-- the period of the input that an axis of this variable moves
abbrev pub own_period : Variable → Key → Span
own_period x k = key_period x.definition_period k.period

-- the input with this value; no line says it
abbrev pub input_with : Variable → Key → Number → Given
input_with x k v = record { variable = k.variable; member = k.member; period = own_period x k; value = value.Number v; line = 0 }

-- the input that an axis moves is among these, where its variable has numbers, and no other shares a day with it
pub record IsMoved (c : Tables) (gs : List Given) (x : Variable) (k : Key) : Type 0 where
  pub period : is_period k.period ≡ true
  pub declared : slice_get c.variables k.variable ≡ Some x
  pub numbers : has_numbers x.value_type ≡ true
  pub alone : overlaps gs k.variable k.member (own_period x k) ≡ false
  pub value : Number
  pub among : put_in gs (input_with x k value) ≡ gs

-- as many equal parts of it as a period may have are numbers, as those of a value of an axis are
abbrev pub HasParts : Number → Type 0
HasParts v = (count : ℕ) → 0 < count → count ≤ 7_304_850 → (part : Number) × (number_of (part_ratio v count) ≡ Ok part)
