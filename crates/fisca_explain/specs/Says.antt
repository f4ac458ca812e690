-- What the line of an entry says.
use Rattle.std.specs.Prelude.{◌≡◌, ℕ, List, [], ◌∷◌, ◌++◌, slice_get, Option, Some, None, string_bytes}
use Rattle.fisca_columns.specs.Texts.{value_text}
use Rattle.fisca_columns.specs.Steps.Texts.{member_of, name_of}
use Rattle.fisca_explanation.specs.Explanations.{Reason, above}
use Rattle.fisca_forms.specs.LineForms.{Form}
use Rattle.fisca_groups.specs.declared.entity_members.EntityMembers.{EntityMembers}
use Rattle.fisca_model.specs.EvalFaults.{name_of as fault_name}
use Rattle.fisca_model.specs.Seen.{key_of}
use Rattle.fisca_model.specs.Tables.{Tables}
use Rattle.fisca_model.specs.Values.{Key, Value}
use Rattle.fisca_model.specs.declared.eval_fault.EvalFault.{EvalFault}
use Rattle.fisca_simulation.specs.Told.{value_of}
use Rattle.fisca_time.specs.PeriodText.{date_text, text_of as period_text}
use Rattle.fisca_simulation.specs.declared.note.Reading.{Reading}
use Rattle.fisca_explain.specs.Explained.{Entry, of_key, of_reading}
use Rattle.fisca_explain.specs.LineTexts.{cells_text, text_of}
use Rattle.fisca_folder.specs.Shown.{shown}
use Rattle.fisca_explain.specs.declared.line.Kind.TheVariants as kind
use Rattle.fisca_explain.specs.declared.line.Line.{Line}
use Rattle.fisca_explain.specs.declared.line.Source.TheVariants as source

-- the tables of a rule set, the members of a situation, and why a key that has no value has none
pub record Names : Type 0 where
  pub tables : Tables
  pub members : List EntityMembers
  pub fault : EvalFault

-- texts of the value of a variable, or of why there is none
abbrev pub AreAnswer : Names → ℕ → Option Value → List ℕ → List ℕ → Type 0
AreAnswer n variable None fault value = (fault ≡ fault_name n.fault) × (value ≡ [])
AreAnswer n variable (Some v) fault value = (fault ≡ []) × (value ≡ value_text n.tables variable (value_of v))

-- the line has one
abbrev pub HasAnswer : Names → ℕ → Option Value → Line → Type 0
HasAnswer n variable v l = AreAnswer n variable v l.fault.now (string_bytes l.value)

-- the line names the key
abbrev pub NamesKey : Names → Key → Line → Type 0
NamesKey n k l =
    (string_bytes l.name ≡ shown (name_of (slice_get n.tables.variables k.variable)))
    × (string_bytes l.member ≡ shown (member_of n.members k.member (slice_get n.tables.variables k.variable))) × (string_bytes l.period ≡ period_text k.period)

-- a key that was explained above says so
abbrev pub IfAbove : Reason → Line → Type 0
IfAbove above l = l.source ≡ source.Above
IfAbove _ l = Unit {0}

abbrev pub Says : Names → Entry → Line → Type 0
Says n (of_key depth k v reason) l = (l.kind ≡ kind.Key) × (l.depth ≡ depth) × NamesKey n k l × HasAnswer n k.variable v l × IfAbove reason l
Says n (of_reading depth r) l = (l.depth ≡ depth) × (string_bytes l.period ≡ date_text r.day)

-- a line in a form; without one it is a text for readers
abbrev pub written : Option Form → Line → List ℕ
written None l = text_of l
written (Some form) l = cells_text form l

-- the text has a line for each entry, in order
abbrev pub AreLines : Names → Option Form → List Entry → List ℕ → Type 0
AreLines n form [] text = text ≡ []
AreLines n form (e ∷ es) text = (l : Line) × (rest : List ℕ) × Says n e l × (text ≡ written form l ++ rest) × AreLines n form es rest
