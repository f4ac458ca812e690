-- Lines that are written one behind another.
use Rattle.std.proofs.Common.{◌≡◌, ◌∙◌, ◌++◌, ◌∷◌, [], ℕ, List, Option, Some, None, Result, Ok, Err, option_map, ap, append_assoc, refl, subst, sym}
use Rattle.std.specs.Io.KnownBytes.{Appends}
use Rattle.fisca_forms.specs.LineForms.{Form}
use Rattle.fisca_writer.proofs.Grown.{trans}
use Rattle.fisca_explanation.specs.Explanations.{Reason}
use Rattle.fisca_groups.specs.declared.entity_members.EntityMembers.{EntityMembers}
use Rattle.fisca_model.specs.Seen.{value_seen}
use Rattle.fisca_model.specs.Tables.{Tables}
use Rattle.fisca_model.specs.Values.{Key}
use Rattle.fisca_model.specs.declared.eval_fault.EvalFault.{EvalFault}
use Rattle.fisca_model.specs.declared.value.Value.{Value as Given}
use Rattle.fisca_explain.specs.Explained.{Entry, of_key}
use Rattle.fisca_explain.specs.Lines.{fault_in, value_in}
use Rattle.fisca_explain.specs.Says.{AreLines, Names, Says, written}
use Rattle.fisca_explain.specs.declared.line.Line.{Line}

pub lines_append : (n : Names) (form : Option Form) (xs ys : List Entry) (s t : List ℕ) → AreLines n form xs s → AreLines n form ys t → AreLines n form (xs ++ ys) (s ++ t)
lines_append n form [] ys s t a b = subst (λ u. AreLines n form ys (u ++ t)) (sym a) b
lines_append n form (x ∷ xs) ys s t a b = (a.0, a.1 ++ t, a.2, ap (λ u. u ++ t) a.3 ∙ append_assoc (written form a.0) a.1 t, lines_append n form xs ys a.1 t a.4 b)

pub line_alone : (n : Names) (form : Option Form) (e : Entry) (l : Line) → Says n e l → AreLines n form (e ∷ []) (written form l)
line_alone n form e l says = (l, [], says, sym (append_nothing (written form l)), refl)
  where
    append_nothing : (xs : List ℕ) → xs ++ [] ≡ xs
    append_nothing [] = refl
    append_nothing (x ∷ xs) = ap (λ ys. x ∷ ys) (append_nothing xs)

module _ (n : Names) (form : Option Form) where
  abbrev IsWritten : List Entry → Option (List ℕ) → Option (List ℕ) → Type 0
  IsWritten entries old new = (text : List ℕ) × AreLines n form entries text × Appends old new text

  -- entries, and more behind them
  pub written_more : (xs ys : List Entry) (old mid new : Option (List ℕ)) → IsWritten xs old mid → IsWritten ys mid new → IsWritten (xs ++ ys) old new
  written_more xs ys old mid new a b = (a.0 ++ b.0, lines_append n form xs ys a.0 b.0 a.1 b.1, trans old mid new a.0 b.0 a.2 b.2)

-- the value of a key, or why it has none
abbrev pub answer_of : EvalFault → Option Given → Result Given EvalFault
answer_of fault None = Err fault
answer_of fault (Some v) = Ok v

-- what has a value has no fault, whatever its column has
pub says_answer : (t : Tables) (members : List EntityMembers) (fault : EvalFault) (depth : ℕ) (k : Key) (value : Option Given) (answer : Result Given EvalFault) (reason : Reason) (l : Line)
    → answer ≡ answer_of fault value
    → Says (record { tables = t; members = members; fault = fault_in answer }) (of_key depth k (option_map value_seen (value_in answer)) reason) l
    → Says (record { tables = t; members = members; fault = fault }) (of_key depth k (option_map value_seen value) reason) l
says_answer t members fault depth k None answer reason l is says =
    subst (λ a. Says (record { tables = t; members = members; fault = fault_in a }) (of_key depth k (option_map value_seen (value_in a)) reason) l) is says
says_answer t members fault depth k (Some v) answer reason l is says =
    subst (λ a. Says (record { tables = t; members = members; fault = fault_in a }) (of_key depth k (option_map value_seen (value_in a)) reason) l) is says
