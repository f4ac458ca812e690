-- What is told of a key that has no value.
use Rattle.std.specs.Prelude.{◌≡◌, ℕ, List, codes, string_bytes, Option, Some, option_map}
use Rattle.fisca_columns.specs.Texts.{key_text}
use Rattle.fisca_model.specs.EvalFaults.{told}
use Rattle.fisca_model.specs.declared.eval_fault.EvalFault.{EvalFault}
use Rattle.fisca_model.specs.Seen.{key_of}
use Rattle.fisca_groups.specs.declared.entity_members.EntityMembers.{EntityMembers}
use Rattle.fisca_rule_files.specs.declared.refusal.Unanswered.{Unanswered}
use Rattle.fisca_rules.specs.declared.rule_set.RuleSet.{RuleSet}
use Rattle.fisca_symbols.specs.Known.{tables as known}

-- the text of the key that a fault is told of, among these members
abbrev pub key_told : RuleSet → List EntityMembers → EvalFault → Option (List ℕ)
key_told rules members fault = option_map (λ f. key_text (codes " ") (known rules.tables) members (key_of f.key)) (told fault)

-- the fault, and the text of its key
pub record IsUnanswered (rules : RuleSet) (members : List EntityMembers) (cause : EvalFault) (u : Unanswered) : Type 0 where
  pub fault : u.fault ≡ cause
  pub key : key_told rules members cause ≡ Some (string_bytes u.key)
