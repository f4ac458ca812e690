-- The steps of code behind `Sharing`:
-- Runs of keys that follow one another in time and have values.
use Rattle.std.specs.Prelude.{◌≡◌, ℕ, ◌+◌, ◌*◌, ◌<◌, ◌==◌, true, if◌then◌else◌, List, Some, slice_get}
use Rattle.std.specs.List.{AllByRecursion}
use Rattle.fisca_time.specs.Period.{Span, unit_of, first_of, size_of}
use Rattle.fisca_time.specs.Unit.{rank}
use Rattle.fisca_inputs.specs.Entries.{Entries}
use Rattle.fisca_inputs.specs.Steps.Entries.{has}
use Rattle.fisca_model.specs.declared.key.Key.{Key}

-- how far apart two neighbours start, by the rank of their unit: years start at every twelfth month
abbrev pub step_of : ℕ → ℕ
step_of unit = if unit == 2 then 12 else 1

-- the period of this unit and size that comes so many places later
pub record IsLater (p : Span) (places : ℕ) (q : Span) : Type 0 where
  pub unit : rank (unit_of q) ≡ rank (unit_of p)
  pub first : first_of q ≡ first_of p + places * step_of (rank (unit_of p))
  pub size : size_of q ≡ size_of p

-- the key of this variable and member that comes so many places later
pub record Follows (k : Key) (places : ℕ) (q : Key) : Type 0 where
  pub variable : q.variable ≡ k.variable
  pub member : q.member ≡ k.member
  pub period : IsLater k.period places q.period

-- so many keys from this one on have values
abbrev pub IsFilled : Entries → Key × ℕ → Type 0
IsFilled es run = (places : ℕ) → places < run.1 → (q : Key) → Follows run.0 places q → has es q ≡ true

abbrev pub AreFilled : Entries → List (Key × ℕ) → Type 0
AreFilled es runs = AllByRecursion (IsFilled es) runs

-- each of these keys has a value
abbrev pub AreThere : Entries → List Key → Type 0
AreThere es ks = (i : ℕ) (k : Key) → slice_get ks i ≡ Some k → has es k ≡ true

-- what has a value in the one has one in the other
abbrev pub AreKept : Entries → Entries → Type 0
AreKept old new = (k : Key) → has old k ≡ true → has new k ≡ true
