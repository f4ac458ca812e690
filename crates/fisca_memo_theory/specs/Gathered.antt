-- How far the work for a key has come.
use Rattle.std.specs.Prelude.{◌≡◌, ℕ, ◌≤◌, List, [], ◌∷◌, Ok}
use Rattle.fisca_model.specs.Values.{Value, Key}
use Rattle.fisca_key_semantics.specs.Answers.{Sources, Oracle, value_within}
use Rattle.fisca_key_semantics.specs.Chains.{IsDefinite}
use Rattle.fisca_key_semantics.specs.Inquiry.{Inquiry, asks}
use Rattle.fisca_key_semantics.specs.Keys.{In}

-- with these answers to its questions, d leads to now
abbrev pub Leads : List (Key × Value) → Inquiry → Inquiry → Type 0
Leads [] d now = d ≡ now
Leads (p ∷ ps) d now = (go : Value → Inquiry) × ((d ≡ asks p.0 go) × Leads ps (go p.1) now)

abbrev pub AreRight : Oracle → List (Key × Value) → Type 0
AreRight W [] = Unit {0}
AreRight W (p ∷ ps) = (W p.0 ≡ Ok p.1) × AreRight W ps

abbrev pub keys_of : List (Key × Value) → List Key
keys_of [] = []
keys_of (p ∷ ps) = p.0 ∷ keys_of ps

-- The work began with d, and now is left. The keys asked for so far have these values within the fuel n, `tallest` is the greatest of their heights, and
-- each meets P.
pub record IsGathered (src : Sources) (n : ℕ) (d now : Inquiry) (tallest : ℕ) (P : Key → Type 0) : Type 0 where
  pub done : List (Key × Value)
  pub leads : Leads done d now
  pub right : AreRight (value_within src n) done
  pub enough : (k : Key) → In k (keys_of done) → IsDefinite (value_within src tallest k)
  pub least : (m : ℕ) → ((k : Key) → In k (keys_of done) → IsDefinite (value_within src m k)) → tallest ≤ m
  pub low : tallest ≤ n
  pub all : (k : Key) → In k (keys_of done) → P k
