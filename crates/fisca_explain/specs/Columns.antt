-- The lines that explain columns, one after another.
use Rattle.std.specs.Prelude.{◌≡◌, ℕ, ◌-◌, List, [], ◌∷◌, ◌++◌, min, Option, Some, None, Result, Ok, Err}
use Rattle.std.specs.Io.KnownBytes.{Appends}
use Rattle.fisca_forms.specs.LineForms.{Form}
use Rattle.fisca_key_semantics.specs.Answers.{most_keys, value_within}
use Rattle.fisca_model.specs.Tables.{Tables}
use Rattle.fisca_model.specs.Values.{Key, Value}
use Rattle.fisca_model.specs.Seen.{key_of}
use Rattle.fisca_model.specs.declared.eval_fault.EvalFault.{EvalFault}
use Rattle.fisca_model.specs.declared.value.Value.{Value as Given}
use Rattle.fisca_simulation.specs.Simulations.{Simulation, normal_key, sources}
use Rattle.fisca_simulation.specs.Told.{told_in}
use Rattle.fisca_simulation.specs.Followed.{value_or_none}
use Rattle.fisca_explain.specs.Explained.{Told, explained}
use Rattle.fisca_explain.specs.Needs.{needs}
use Rattle.fisca_explain.specs.Says.{AreLines}
use Rattle.fisca_explain.specs.declared.explain.ExplainFault.{ExplainFault}
use Rattle.fisca_explain.specs.declared.explain.ExplainFault.TheVariants as end

-- a situation under a rule set with these tables, how many keys stand above one another at most, where that is said, and the form of lines
pub record Explaining : Type 0 where
  pub tables : Tables
  pub simulation : Simulation
  pub depth : Option ℕ
  pub form : Option Form

abbrev pub levels_of : Option ℕ → ℕ
levels_of None = most_keys
levels_of (Some most) = min most most_keys

-- the value of a key below so many others, as the rules define it
abbrev pub value_below : Simulation → ℕ → Key → Option Value
value_below m depth k = value_or_none (value_within (sources m) (most_keys - depth) k)

-- a column, where these formulas were followed before it; that of an eternal variable has the eternal period
abbrev pub column_told : Explaining → List Key → Key → Told
column_told x before k =
    explained (sources x.simulation) (value_below x.simulation) (needs x.simulation (value_below x.simulation)) (levels_of x.depth) 0 before (normal_key x.simulation.rules k)

-- the text explains a column; what has no value has none for this reason
abbrev pub ExplainsOne : Explaining → EvalFault → List Key → Key → List ℕ → Type 0
ExplainsOne x fault before k text =
    AreLines (record { tables = x.tables; members = x.simulation.situation.members; fault = fault }) x.form (column_told x before k).entries text

abbrev pub HasValue : Explaining → Key → Type 0
HasValue x k = (v : Given) × (told_in x.simulation (key_of k) ≡ Ok v)

-- the text explains columns that all have values
abbrev pub ExplainsAll : Explaining → List Key → List Key → List ℕ → Type 0
ExplainsAll x before [] text = text ≡ []
ExplainsAll x before (k ∷ ks) text =
    (one : List ℕ) × (rest : List ℕ) × HasValue x k × ((fault : EvalFault) × ExplainsOne x fault before k one) × (text ≡ one ++ rest) × ExplainsAll x (column_told x before k).followed ks rest

-- the formulas that were followed in columns
abbrev pub followed_in : Explaining → List Key → List Key → List Key
followed_in x before [] = before
followed_in x before (k ∷ ks) = followed_in x (column_told x before k).followed ks

-- up to the first column without a value, which has none for this reason
pub record ExplainsUpTo (x : Explaining) (fault : EvalFault) (keys : List Key) (text : List ℕ) : Type 0 where
  pub done : List Key
  pub key : Key
  pub rest : List Key
  pub are : keys ≡ done ++ key ∷ rest
  pub first : List ℕ
  pub last : List ℕ
  pub all : ExplainsAll x [] done first
  pub none : told_in x.simulation (key_of key) ≡ Err fault
  pub one : ExplainsOne x fault (followed_in x [] done) key last
  pub text_is : text ≡ first ++ last

-- what is answered, where a sink held `old` and then holds `new`; where the sink fails or memory is refused nothing is said of what it holds
abbrev pub IsExplained : Explaining → List Key → Option (List ℕ) → Option (List ℕ) → Result Unit ExplainFault → Type 0
IsExplained x keys old new (Ok done) = (text : List ℕ) × ExplainsAll x [] keys text × Appends old new text
IsExplained x keys old new (Err (end.Eval fault)) = (text : List ℕ) × ExplainsUpTo x fault keys text × Appends old new text
IsExplained x keys old new (Err end.Write) = Unit {0}
IsExplained x keys old new (Err end.Memory) = Unit {0}
