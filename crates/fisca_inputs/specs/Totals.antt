-- Sums of numbers, and what accepted inputs keep.
use Rattle.std.specs.Prelude.{◌≡◌, ℕ, ◌<◌, nat_lt, ℤ, pos, ◌+ℤ◌, Bool, if◌then◌else◌, List, [], ◌∷◌, slice_get, Option, Some, None}
use Rattle.std.specs.List.{AllZip, list_any}
use Rattle.fisca_num.specs.Number.{Number, ratio_of}
use Rattle.fisca_num.specs.Rational.{IsSame}
use Rattle.fisca_model.specs.Tables.{otherwise}
use Rattle.fisca_inputs.specs.Defaults.{row_key}
use Rattle.fisca_inputs.specs.Steps.Defaults.{count_of}
use Rattle.fisca_inputs.specs.Entries.{Entries, same_key, value_at}
use Rattle.fisca_inputs.specs.Rules.{Rule}
use Rattle.fisca_model.specs.declared.key.Key.{Key}
use Rattle.fisca_model.specs.declared.value.Value.{Value}
use Rattle.fisca_model.specs.declared.value.Value.TheVariants as v

-- the number is z over that denominator
abbrev pub IsOver : ℕ → Number → ℤ → Type 0
IsOver d n z = IsSame (ratio_of n) (record { numerator = z; denominator = d })

abbrev pub total_of : List ℤ → ℤ
total_of [] = pos 0
total_of (z ∷ zs) = z +ℤ total_of zs

-- the key has a number, which is z over that denominator
pub record HasOver (d : ℕ) (es : Entries) (k : Key) (z : ℤ) : Type 0 where
  pub number : Number
  pub has : value_at es k ≡ Some (v.Number number)
  pub is : IsOver d number z

-- brought to any common denominator, the numbers of these keys add up to this one
abbrev pub AddUpTo : Entries → List Key → Number → Type 0
AddUpTo es ks n = (d : ℕ) → (zs : List ℤ) → 0 < d → AllZip (HasOver d es) ks zs → IsOver d n (total_of zs)

-- each key that has a value keeps it
abbrev pub Keeps : Entries → Entries → Type 0
Keeps old new = (k : Key) → (x : Value) → value_at old k ≡ Some x → value_at new k ≡ Some x

-- the default of a variable, for a member that there is
abbrev pub default_for : Option Rule → List ℕ → ℕ → Option Value
default_for None counts m = None
default_for (Some r) counts m = if nat_lt m (count_of counts r.entity) then r.default else None

-- some member has a value for the variable and period of this key
abbrev pub is_beside : Entries → Key → Bool
is_beside es q = list_any (λ e. same_key (row_key q) (row_key e.0)) es

-- the value of a key, or else its default beside another member's
abbrev pub value_or_default : List Rule → List ℕ → Entries → Key → Option Value
value_or_default rules counts es q = otherwise (value_at es q) (if is_beside es q then default_for (slice_get rules q.variable) counts q.member else None)
