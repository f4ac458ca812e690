-- The keys of entries and of lines, each with how many stand above it and with its reason.
use Rattle.std.specs.Prelude.{◌≡◌, ℕ, ◌-◌, List, [], ◌∷◌, length}
use Rattle.fisca_explanation.specs.Explanations.{Line, Reason}
use Rattle.fisca_key_semantics.specs.Answers.{Sources, formula, most_keys, value_within}
use Rattle.fisca_key_semantics.specs.Chains.{asked}
use Rattle.fisca_key_semantics.specs.Inquiry.{Inquiry}
use Rattle.fisca_model.specs.Values.{Key}
use Rattle.fisca_simulation.specs.Followed.{keys_noted}
use Rattle.fisca_simulation.specs.declared.note.Note.{Note}
use Rattle.fisca_explain.specs.Explained.{Entry, of_key, of_reading}

pub record KeyLine : Type 0 where
  pub depth : ℕ
  pub key : Key
  pub reason : Reason

abbrev pub of_entries : List Entry → List KeyLine
of_entries [] = []
of_entries (of_key depth key v reason ∷ es) = record { depth = depth; key = key; reason = reason } ∷ of_entries es
of_entries (of_reading depth r ∷ es) = of_entries es

abbrev pub of_lines : List Line → List KeyLine
of_lines [] = []
of_lines (l ∷ ls) = record { depth = length l.path; key = l.key; reason = l.reason } ∷ of_lines ls

-- what the formulas of keys need, below so many others, has the keys that they ask for there
abbrev pub AreNeeds : Sources → (ℕ → Key → List Note) → Type 0
AreNeeds src N = (depth : ℕ) (key : Key) (d : Inquiry) → src key ≡ formula d → keys_noted (N depth key) ≡ asked (value_within src (most_keys - 1 - depth)) d
