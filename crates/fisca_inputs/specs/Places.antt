-- Where the values of keys stand: for each variable and period numbers of members, in pages of 64, each one more than the place of the entry.
use Rattle.std.specs.Prelude.{◌≡◌, ℕ, suc, ◌/◌, ◌%◌, if◌then◌else◌, true, false, Bool, List, [], ◌∷◌, Option, Some, None, slice_get, slice_index_or}
use Rattle.std.specs.List.{IsDistinct}
use Rattle.std.specs.Map.{keys_of, lookup}
use Rattle.std.specs.Option.{unwrap_or}
use Rattle.fisca_inputs.specs.Entries.{Entries, key, same_key}
use Rattle.fisca_inputs.specs.Steps.Entries.{has}
use Rattle.fisca_model.specs.declared.value.Value.{Value}
use Rattle.fisca_model.specs.declared.key.Key.{Key}

-- the number at a place; 0 past the last
abbrev pub number_at : List ℕ → ℕ → ℕ
number_at numbers m = unwrap_or (slice_get numbers m) 0

abbrev pub Pages : Type 0
Pages = List (Key × List ℕ)

abbrev pub number_in : Option (List ℕ) → ℕ → ℕ
number_in None m = 0
number_in (Some numbers) m = number_at numbers m

-- 64 members of one variable and period have a page
abbrev pub page_key : Key → Key
page_key k = key k.variable (k.member / 64) k.period

-- the number of a key
abbrev pub number_of : Pages → Key → ℕ
number_of pages k = number_in (lookup (same_key (page_key k)) pages) (k.member % 64)

-- the number of a key among these, where the first has this number and each one more than that before it; 0 where it is none of them
abbrev pub numbered_from : ℕ → List Key → Key → ℕ
numbered_from n [] k = 0
numbered_from n (q ∷ qs) k = if same_key k q then n else numbered_from (suc n) qs k

-- each key has the number of its entry
abbrev pub AreNumbered : Pages → Entries → Type 0
AreNumbered pages es = (k : Key) → number_of pages k ≡ numbered_from 1 (keys_of es) k

-- the buckets of the variables that have entries are occupied
abbrev pub AreOccupied : List Bool → Entries → Type 0
AreOccupied occupied es = (k : Key) → has es k ≡ true → slice_index_or occupied (k.variable % 256) false ≡ true

-- no key stands twice
abbrev pub AreOnce : {X : Type 0} → List (Key × X) → Type 0
AreOnce es = IsDistinct same_key (keys_of es)

-- the key's entry stands at this place
pub record StandsAt (es : Entries) (k : Key) (place : ℕ) : Type 0 where
  pub own : Key
  pub value : Value
  pub there : slice_get es place ≡ Some (own, value)
  pub same : same_key k own ≡ true
