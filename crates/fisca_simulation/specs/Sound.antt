-- Values that are of the types of their variables.
use Rattle.std.specs.Prelude.{◌≡◌, ⊤, true, Some}
use Rattle.fisca_key_semantics.specs.Answers.{Source, Sources, refused, known, formula}
use Rattle.fisca_key_semantics.specs.Inquiry.{of_key}
use Rattle.fisca_inputs.specs.Entries.{value_at}
use Rattle.fisca_model.specs.Seen.{value_seen}
use Rattle.fisca_inputs.specs.Typed.{IsValueOf}
use Rattle.fisca_model.specs.declared.value.Value.{Value as Input}
use Rattle.fisca_model.specs.declared.key.Key.{Key as InputKey}
use Rattle.fisca_model.specs.Values.{Value, Key}
use Rattle.fisca_key_semantics.specs.Dialogues.{Dialogue, gives, fails, stuck, asks}
use Rattle.fisca_model.specs.Tables.{variable_type}
use Rattle.fisca_typing.specs.Safe.{is_of}
use Rattle.fisca_rules.specs.Rules.{Rules, known_by}
use Rattle.fisca_rules.specs.Safety.{AreNeverStuck, DaysAndTextsHaveNoFormulas, DefaultsFit}
use Rattle.fisca_situations.specs.Situations.{Situation}
use Rattle.fisca_model.specs.Tables.{Tables}
use Rattle.fisca_model.specs.declared.value_type.ValueType.{ValueType}

-- As long as each question, which is for a variable that there is, is answered by a value of its type, the dialogue ends with such a
-- value or with a fault.
abbrev pub GivesOnly : Tables → (Value → Type 0) → Dialogue → Type 0
GivesOnly c P (gives v) = P v
GivesOnly c P (fails e) = ⊤
GivesOnly c P stuck = ⊥
GivesOnly c P (asks k f) = (s : ValueType) × (variable_type c k.variable ≡ Some s) × ((v : Value) → is_of c s v ≡ true → GivesOnly c P (f v))

-- a value of its variable's type, or a formula that gives one
abbrev pub IsSound : Tables → Key → Source → Type 0
IsSound c k refused = ⊤
IsSound c k (known v) = IsValueOf c k.variable v
IsSound c k (formula q) = (d : Dialogue) × (q ≡ of_key k d) × GivesOnly c (IsValueOf c k.variable) d

abbrev pub AreSound : Tables → Sources → Type 0
AreSound c src = (k : Key) → IsSound c k (src k)

-- what a rule set that was built has
pub record IsSafeRules (r : Rules) : Type 0 where
  pub formulas : AreNeverStuck r
  pub defaults : DefaultsFit r
  pub uncomputed : DaysAndTextsHaveNoFormulas r

-- each input is of its variable's type
abbrev pub InputsFit : Rules → Situation → Type 0
InputsFit r s = (k : InputKey) (w : Input) → value_at s.inputs k ≡ Some w → IsValueOf (known_by r) k.variable (value_seen w)
