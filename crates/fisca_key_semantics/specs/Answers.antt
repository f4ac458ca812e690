-- The value of a key: first within a fuel, which is how many keys may be asked for below one another, itself among them; then its answer.
use Rattle.std.specs.Prelude.{ℕ, zero, suc, List, [], ◌∷◌, if◌then◌else◌, Option, Some, None, Result, Ok, Err}
use Rattle.fisca_num.specs.Results.{and_then}
use Rattle.fisca_model.specs.Values.{Value, Key}
use Rattle.fisca_model.specs.Causes.{Fault, fault_at, period_mismatch, cycle, too_deep}
use Rattle.fisca_key_semantics.specs.Inquiry.{Inquiry, gives, fails, asks}
use Rattle.fisca_key_semantics.specs.Keys.{has}

-- why there is no value: a fault, or the fuel ran out at the end of this chain of keys, each of which asks for the next
pub data Halt : Type 0 where
  fault : Fault → Halt
  out : List Key → Halt

-- what the value of a key comes from: nothing, as its period does not fit; an input or a default; or a formula
pub data Source : Type 0 where
  refused : Source
  known : Value → Source
  formula : Inquiry → Source

abbrev pub Sources : Type 0
Sources = Key → Source

-- answers to the questions of inquiries
abbrev pub Oracle : Type 0
Oracle = Key → Result Value Halt

-- how an inquiry ends: with a value, its first fault, or the first answer that is no value
abbrev pub outcome : Oracle → Inquiry → Result Value Halt
outcome W (gives v) = Ok v
outcome W (fails f) = Err (fault f)
outcome W (asks k go) = and_then (W k) (λ v. outcome W (go v))

-- a chain below the key is one from the key
abbrev pub through : Key → Result Value Halt → Result Value Halt
through key (Ok v) = Ok v
through key (Err (fault f)) = Err (fault f)
through key (Err (out chain)) = Err (out (key ∷ chain))

abbrev pub mismatch : Key → Result Value Halt
mismatch key = Err (fault (fault_at period_mismatch key))

-- without fuel the period alone is judged
abbrev pub at_once : Source → Key → Result Value Halt
at_once refused key = mismatch key
at_once (known v) key = Err (out (key ∷ []))
at_once (formula d) key = Err (out (key ∷ []))

-- with fuel for the key, where W answers with the fuel that is left
abbrev pub from_source : Source → Key → Oracle → Result Value Halt
from_source refused key W = mismatch key
from_source (known v) key W = Ok v
from_source (formula d) key W = through key (outcome W d)

unfoldable pub value_within : Sources → ℕ → Oracle
value_within src zero key = at_once (src key) key
value_within src (suc n) key = from_source (src key) key (value_within src n)

-- The answer

-- the first key that stands again further on
abbrev pub first_again : List Key → Option Key
first_again [] = None
first_again (k ∷ ks) = if has ks k then Some k else first_again ks

abbrev pub verdict_by : Option Key → Key → Fault
verdict_by (Some k) first = fault_at cycle k
verdict_by None first = fault_at too_deep first

-- what a chain that is too long means, for the key that was asked for first
abbrev pub verdict : Key → List Key → Fault
verdict first chain = verdict_by (first_again chain) first

abbrev pub settled : Key → Result Value Halt → Result Value Fault
settled key (Ok v) = Ok v
settled key (Err (fault f)) = Err f
settled key (Err (out chain)) = Err (verdict key chain)

-- a chain has a hundred keys at most
abbrev pub most_keys : ℕ
most_keys = 100

unfoldable pub answer : Sources → Key → Result Value Fault
answer src key = settled key (value_within src most_keys key)
