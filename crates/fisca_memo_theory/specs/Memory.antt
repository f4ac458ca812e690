-- When what is remembered is true.
use Rattle.std.specs.Prelude.{◌≡◌, ℕ, Ok, Option, Some, None}
use Rattle.fisca_model.specs.Values.{Value, Key}
use Rattle.fisca_key_semantics.specs.Answers.{Sources, formula, value_within}
use Rattle.fisca_key_semantics.specs.Chains.{IsHeight}
use Rattle.fisca_key_semantics.specs.Inquiry.{Inquiry}
use Rattle.fisca_memo_theory.specs.Entries.{Entry, Entries, Remembered}
use Rattle.fisca_memo_theory.specs.Work.{Covered}

-- the value of the key within this fuel, and its height
pub record IsKnown (src : Sources) (fuel : ℕ) (key : Key) (value : Value) (height : ℕ) : Type 0 where
  pub answers : value_within src fuel key ≡ Ok value
  pub height_is : IsHeight src key height

-- the key's value comes from a formula
abbrev pub HasFormula : Sources → Key → Type 0
HasFormula src key = (d : Inquiry) × (src key ≡ formula d)

-- an entry has the key's value and height
abbrev pub IsTrueEntry : Sources → Key → Option Entry → Type 0
IsTrueEntry src key None = Unit {0}
IsTrueEntry src key (Some e) = IsKnown src e.height key e.value e.height

-- Each entry is true, its key has a formula, and all of its key's work is remembered.
pub record IsTrueMemory (src : Sources) (entries : Entries) : Type 0 where
  pub each : (key : Key) → IsTrueEntry src key (entries key)
  pub formulas : (key : Key) → Remembered entries key → HasFormula src key
  pub closed : (key : Key) → Remembered entries key → Covered src (Remembered entries) key
