-- How a column is written: `NAME`, `NAME#INDEX`, `NAME@PERIOD` or `NAME#INDEX@PERIOD`.
use Rattle.std.specs.Prelude.{◌≡◌, ℕ, List, [], ◌++◌, Bool, false, ◌==◌, Option, Some, None, codes}
use Rattle.std.specs.List.{list_any}

-- a name, and perhaps an index and a period
pub record Parts : Type 0 where
  pub name : List ℕ
  pub index : Option (List ℕ)
  pub period : Option (List ℕ)

abbrev pub behind : List ℕ → Option (List ℕ) → List ℕ
behind mark None = []
behind mark (Some t) = mark ++ t

-- the text of these parts
abbrev pub text_of_parts : Parts → List ℕ
text_of_parts w = w.name ++ (behind (codes "#") w.index ++ behind (codes "@") w.period)

abbrev pub number_sign : ℕ
number_sign = 35

abbrev pub at_sign : ℕ
at_sign = 64

abbrev pub has_sign : ℕ → List ℕ → Bool
has_sign sign t = list_any (λ c. c == sign) t

abbrev pub has_sign_in : ℕ → Option (List ℕ) → Bool
has_sign_in sign None = false
has_sign_in sign (Some t) = has_sign sign t

-- A text is written so: its first `@` stands before the period, and the first `#` of what is before that stands before the index.
pub record IsWritten (text : List ℕ) (w : Parts) : Type 0 where
  pub whole : text ≡ text_of_parts w
  pub name_ends : has_sign number_sign w.name ≡ false
  pub name_has_no_period : has_sign at_sign w.name ≡ false
  pub index_ends : has_sign_in at_sign w.index ≡ false
