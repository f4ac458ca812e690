-- The keys whose formulas give values in the work for a key, and which of them are remembered.
use Rattle.std.specs.Prelude.{◌≡◌, ◌⊎◌, ℕ, zero, suc, List, [], ◌∷◌, Ok}
use Rattle.fisca_model.specs.Values.{Value, Key}
use Rattle.fisca_key_semantics.specs.Answers.{Sources, formula, value_within}
use Rattle.fisca_key_semantics.specs.Chains.{IsDefinite, asked}
use Rattle.fisca_key_semantics.specs.Inquiry.{Inquiry}
use Rattle.fisca_key_semantics.specs.Keys.{In}
use Rattle.fisca_memo_theory.specs.Entries.{Entries, Remembered}

-- Within this fuel k is of the work of a key that has a formula: of that of a key that the formula asks for, or k is the key itself, and it has a value.
unfoldable pub IsWork : Sources → ℕ → Key → Key → Type 0
IsWork src zero key k = ⊥
IsWork src (suc n) key k = (d : Inquiry) × (src key ≡ formula d) × (((j : Key) × In j (asked (value_within src n) d) × IsWork src n j k) ⊎ ((k ≡ key) × ((v : Value) × (value_within src (suc n) key ≡ Ok v))))

-- within each fuel all of its work is there
abbrev pub Covered : Sources → (Key → Type 0) → Key → Type 0
Covered src there key = (n : ℕ) (k : Key) → IsWork src n key k → there k

-- if b has no definite answer, then each key that a asks for is b, or its work is there
abbrev pub Passed : Sources → (Key → Type 0) → Key → Key → Type 0
Passed src there a b = ((n : ℕ) → IsDefinite (value_within src n b) → ⊥) → (d : Inquiry) → src a ≡ formula d → (n : ℕ) (k : Key) → In k (asked (value_within src n) d) → (b ≡ k) ⊎ Covered src there k

-- each key of a chain passed on to the next
abbrev pub PassedFrom : Sources → (Key → Type 0) → Key → List Key → Type 0
PassedFrom src there k [] = Unit {0}
PassedFrom src there k (j ∷ js) = Passed src there k j × PassedFrom src there j js

abbrev pub PassedPath : Sources → (Key → Type 0) → List Key → Type 0
PassedPath src there [] = Unit {0}
PassedPath src there (k ∷ ks) = PassedFrom src there k ks

-- what is remembered stays so, and what is new is of the work
pub record Grows (old new : Entries) (work : Key → Type 0) : Type 0 where
  pub kept : (k : Key) → Remembered old k → Remembered new k
  pub only : (k : Key) → Remembered new k → Remembered old k ⊎ work k
