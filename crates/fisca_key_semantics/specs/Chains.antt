-- Which keys are asked for, and how much fuel a value needs.
use Rattle.std.specs.Prelude.{◌≡◌, ℕ, ◌≤◌, List, [], ◌∷◌, Result, Ok, Err}
use Rattle.fisca_model.specs.Values.{Value, Key}
use Rattle.fisca_key_semantics.specs.Inquiry.{Inquiry, gives, fails, asks}
use Rattle.fisca_key_semantics.specs.Keys.{In}
use Rattle.fisca_key_semantics.specs.Answers.{Halt, fault, out, Sources, Oracle, formula, value_within}

-- a value or a fault, whatever more fuel there is
abbrev pub IsDefinite : Result Value Halt → Type 0
IsDefinite (Ok v) = Unit {0}
IsDefinite (Err (fault f)) = Unit {0}
IsDefinite (Err (out chain)) = ⊥

abbrev pub on_value : Result Value Halt → (Value → List Key) → List Key
on_value (Ok v) f = f v
on_value (Err e) f = []

-- the keys asked for, in order
abbrev pub asked : Oracle → Inquiry → List Key
asked W (gives v) = []
asked W (fails f) = []
asked W (asks k go) = k ∷ on_value (W k) (λ v. asked W (go v))

-- the least fuel with a definite answer
pub record IsHeight (src : Sources) (key : Key) (height : ℕ) : Type 0 where
  pub enough : IsDefinite (value_within src height key)
  pub least : (n : ℕ) → IsDefinite (value_within src n key) → height ≤ n

-- with some fuel the formula of k asks for j
pub record AsksFor (src : Sources) (k j : Key) : Type 0 where
  pub fuel : ℕ
  pub inquiry : Inquiry
  pub is_formula : src k ≡ formula inquiry
  pub asks : In j (asked (value_within src fuel) inquiry)

-- each key asks for the next
abbrev pub PathFrom : Sources → Key → List Key → Type 0
PathFrom src k [] = Unit {0}
PathFrom src k (j ∷ js) = AsksFor src k j × PathFrom src j js

abbrev pub IsPath : Sources → List Key → Type 0
IsPath src [] = Unit {0}
IsPath src (k ∷ ks) = PathFrom src k ks
