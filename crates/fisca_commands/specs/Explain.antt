-- What `fisca explain` answers and writes.
use Rattle.std.specs.Prelude.{◌≡◌, ◌⊎◌, ℕ, List, [], ◌∷◌, map, Option, Some, None, Result, Ok, Err, String, string_bytes}
use Rattle.std.specs.Io.KnownBytes.{Keeps}
use Rattle.std.specs.declared.alloc.Global.{Global}
use Rattle.fisca_columns.specs.Columns.{column_of}
use Rattle.fisca_columns.specs.Steps.Calc.{default_in}
use Rattle.fisca_explain.specs.Columns.{Explaining, IsExplained}
use Rattle.fisca_explain.specs.LineTexts.{explain_names}
use Rattle.fisca_explain.specs.declared.explain.ExplainFault.{ExplainFault}
use Rattle.fisca_explain.specs.declared.explain.ExplainFault.TheVariants as end
use Rattle.fisca_forms.specs.LineForms.{Form}
use Rattle.fisca_forms.specs.declared.form.Format.{Format}
use Rattle.fisca_groups.specs.declared.entity_members.EntityMembers.{EntityMembers}
use Rattle.fisca_model.specs.Seen.{key_seen}
use Rattle.fisca_model.specs.declared.key.Key.{Key}
use Rattle.fisca_params.specs.Source.{Source}
use Rattle.fisca_rule_files.specs.declared.refusal.Refusal.{Refusal}
use Rattle.fisca_rule_files.specs.declared.refusal.Refusal.TheVariants.{BadWord, Memory, Write}
use Rattle.fisca_rules.specs.declared.rule_set.RuleSet.{RuleSet}
use Rattle.fisca_situations.specs.Steps.Views.{situation as view}
use Rattle.fisca_situations.specs.declared.situation.Situation.{Situation}
use Rattle.fisca_symbols.specs.Known.{tables as known}
use Rattle.fisca_time.specs.Period.{Span}
use Rattle.fisca_yaml.specs.Grouping.{document}
use Rattle.fisca_yaml.specs.Node.{Node}
use Rattle.fisca_columns.specs.Calc.{Calc}
use Rattle.fisca_commands.specs.Calc.{Calculation, IsAsked, IsCalculation, IsKeyTold, RefusesCalculation, RefusesText, simulation_of}

-- the keys that words name, if each names one
abbrev pub joined : Option Key → Option (List Key) → Option (List Key)
joined None keys = None
joined (Some key) None = None
joined (Some key) (Some keys) = Some (key ∷ keys)

abbrev pub keys_named : (List ℕ → Option Key) → List (List ℕ) → Option (List Key)
keys_named key_of [] = Some []
keys_named key_of (word ∷ words) = joined (key_of word) (keys_named key_of words)

-- the columns of the file, or those that words name
abbrev pub chosen : Calculation → Option Span → List (List ℕ) → Option (List Key)
chosen c default [] = Some c.asked.columns
chosen c default (word ∷ words) = keys_named (column_of (known c.rules.tables) c.asked.situation.members default) (word ∷ words)

-- the keys that words name in a situation under a rule set, as these stand in memory
abbrev pub named : RuleSet → Situation → Option Span → List (String Global) → Option (List Key)
named rules situation default words = keys_named (column_of (known rules.tables) (view situation).members default) (map (λ word. string_bytes word) words)

-- the columns of a file, or keys that are named, if there are any
abbrev pub picked : List Key → List Key → List Key
picked columns [] = columns
picked columns (k ∷ ks) = k ∷ ks

-- the form of lines that is asked for; without one they are texts for readers
abbrev pub form_in : Option Format → Option Form
form_in None = None
form_in (Some format) = Some (record { format = format; decimals = None; names = explain_names })

-- what is explained
abbrev pub explaining : Calculation → Option ℕ → Option Format → Explaining
explaining c depth format = record { tables = known c.rules.tables; simulation = simulation_of c; depth = depth; form = form_in format }

-- how the lines end
abbrev pub IsEndIn : RuleSet → List EntityMembers → Result Unit ExplainFault → Result Unit Refusal → Type 0
IsEndIn rules members (Ok done) answer = answer ≡ Ok done
IsEndIn rules members (Err (end.Eval fault)) answer = (refusal : Refusal) × (answer ≡ Err refusal) × IsKeyTold rules members fault refusal
IsEndIn rules members (Err end.Write) answer = answer ≡ Err Write
IsEndIn rules members (Err end.Memory) answer = answer ≡ Err Memory

-- the columns are explained, and this is answered
abbrev pub IsExplainedIn : Calculation → Explaining → List Key → Option (List ℕ) → Option (List ℕ) → Result Unit Refusal → Type 0
IsExplainedIn c x keys old new answer = (told : Result Unit ExplainFault) × IsExplained x (map key_seen keys) old new told × IsEndIn c.rules c.asked.situation.members told answer

-- a word names no column, or the columns are explained
abbrev pub IsExplainedBy : Calculation → Option (List Key) → Option ℕ → Option Format → Option (List ℕ) → Option (List ℕ) → Result Unit Refusal → Type 0
IsExplainedBy c None depth format old new answer = (answer ≡ Err BadWord) × Keeps old new
IsExplainedBy c (Some keys) depth format old new answer = IsExplainedIn c (explaining c depth format) keys old new answer

-- the same of the columns that words name, or of those of the file; or memory was refused before
abbrev pub IsExplainedOrFull : Calculation → Option Span → List (List ℕ) → Option ℕ → Option Format → Option (List ℕ) → Option (List ℕ) → Result Unit Refusal → Type 0
IsExplainedOrFull c default words depth format old new answer =
    ((answer ≡ Err Memory) × Keeps old new) ⊎ IsExplainedBy c (chosen c default words) depth format old new answer

-- what is answered for this text under a rule set: it is refused and nothing is written, or its columns are explained
abbrev pub IsTextExplained : RuleSet → List ℕ → List (List ℕ) → Option ℕ → Option Format → Option (List ℕ) → Option (List ℕ) → Result Unit Refusal → Type 0
IsTextExplained rules text words depth format old new answer =
    ((refusal : Refusal) × (answer ≡ Err refusal) × RefusesText rules text refusal × Keeps old new)
    ⊎ ((asked : Calc) × (n : Node) × IsAsked rules text asked × (document text ≡ Some n)
    × IsExplainedOrFull (record { rules = rules; asked = asked }) (default_in n) words depth format old new answer)

-- what `explain` answers for these files and this text, and what a sink that held `old` then holds: they are refused and nothing is written, or the columns are
-- explained in order, up to the first that has no value
abbrev pub IsExplain : List Source → List ℕ → List (List ℕ) → Option ℕ → Option Format → Option (List ℕ) → Option (List ℕ) → Result Unit Refusal → Type 0
IsExplain files text words depth format old new answer =
    ((refusal : Refusal) × (answer ≡ Err refusal) × RefusesCalculation files text refusal × Keeps old new)
    ⊎ ((c : Calculation) × (n : Node) × IsCalculation files text c × (document text ≡ Some n)
    × IsExplainedOrFull c (default_in n) words depth format old new answer)
