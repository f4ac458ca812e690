-- What `fisca calc` answers and writes.
use Rattle.std.specs.Prelude.{◌≡◌, ◌≢◌, ◌⊎◌, ℕ, ◌++◌, List, [], ◌∷◌, codes, length, Option, Some, None, Result, Ok, Err}
use Rattle.std.specs.Io.KnownBytes.{Appends, Keeps}
use Rattle.fisca_columns.specs.Calc.{Calc, calc_of}
use Rattle.fisca_columns.specs.Formed.{column_row_in}
use Rattle.fisca_forms.specs.LineForms.{Form}
use Rattle.fisca_columns.specs.declared.fault.RunFileFault.{RunFileFault}
use Rattle.fisca_columns.specs.declared.fault.RunFileKind.TheVariants as file
use Rattle.fisca_simulation.specs.Told.{told_in}
use Rattle.fisca_model.specs.declared.eval_fault.EvalFault.{EvalFault}
use Rattle.fisca_writer.specs.Lines.{lines}
use Rattle.fisca_writer.specs.Ranges.{no_limit}
use Rattle.fisca_writer.specs.Row.{Row}
use Rattle.fisca_writer.specs.Run.{IsRun, texts}
use Rattle.fisca_writer.specs.declared.fault.RunEnd.{RunEnd}
use Rattle.fisca_writer.specs.declared.fault.RunEnd.TheVariants.{End}
use Rattle.fisca_writer.specs.declared.fault.RunFault.{RunFault}
use Rattle.fisca_writer.specs.declared.fault.RunFault.TheVariants as run
use Rattle.fisca_groups.specs.declared.entity_members.EntityMembers.{EntityMembers}
use Rattle.fisca_params.specs.Source.{Source}
use Rattle.fisca_rules.specs.Views.{rule_set}
use Rattle.fisca_rules.specs.declared.rule_set.RuleSet.{RuleSet}
use Rattle.fisca_simulation.specs.Simulations.{Simulation}
use Rattle.fisca_symbols.specs.Known.{tables as known}
use Rattle.fisca_yaml.specs.Grouping.{document}
use Rattle.fisca_yaml.specs.Node.{Node}
use Rattle.fisca_rule_files.specs.RuleFiles.{IsAccepted, RefusesFiles}
use Rattle.fisca_grid_run.specs.Forms.{IsHeaderRefused, header_of, line_form_of, shown_form}
use Rattle.fisca_grid_run.specs.Unanswered.{IsUnanswered}
use Rattle.fisca_command_line.specs.declared.options.TableForm.{TableForm}
use Rattle.fisca_grid_run.specs.Yaml.{IsYamlRefused}
use Rattle.fisca_rule_files.specs.declared.refusal.Refusal.{Refusal}
use Rattle.fisca_rule_files.specs.declared.refusal.Refusal.TheVariants.{RunFile, Eval, Write, Memory}
use Rattle.fisca_rule_files.specs.declared.refusal.Unanswered.{Unanswered}

-- a rule set, as it stands in memory, and what a file asks for under it
pub record Calculation : Type 0 where
  pub rules : RuleSet
  pub asked : Calc

-- the text is YAML, and a file that asks for this under the rule set
abbrev pub IsAsked : RuleSet → List ℕ → Calc → Type 0
IsAsked rules text asked = (n : Node) × (document text ≡ Some n) × (calc_of rules.tables n ≡ Ok asked)

-- the files make the rule set, and the text asks for this under it
abbrev pub IsCalculation : List Source → List ℕ → Calculation → Type 0
IsCalculation files text c = IsAccepted files (rule_set c.rules) × IsAsked c.rules text c.asked

-- where values are worked out; no variable is neutralised
abbrev pub simulation_of : Calculation → Simulation
simulation_of c = record { rules = rule_set c.rules; situation = c.asked.situation; neutral = [] }

-- what stands at the place of a column, behind the number that leads its line, if there is one: the line of its key with the value that the rules define, or why it has none
abbrev pub row_of : Calculation → Option Form → Option ℕ → ℕ → Row EvalFault
row_of c form lead = column_row_in form lead (known c.rules.tables) c.asked.situation.members (told_in (simulation_of c)) c.asked.columns

-- the lines of the columns in order, up to the first that has no value
abbrev pub lines_of : Calculation → Option Form → Option ℕ → List (ℕ × List ℕ)
lines_of c form lead = lines (row_of c form lead) (length c.asked.columns) 0 None

-- the run over all columns answers this, where a sink held `old` and then holds `new`
abbrev pub IsColumnsRun : Calculation → Option Form → Option ℕ → Option (List ℕ) → Option (List ℕ) → Result RunEnd (RunFault EvalFault) → Type 0
IsColumnsRun c form lead = IsRun (row_of c form lead) (length c.asked.columns) 0 no_limit

-- the refusal tells the fault with its key, or that memory was refused
abbrev pub IsKeyTold : RuleSet → List EntityMembers → EvalFault → Refusal → Type 0
IsKeyTold rules members fault refusal = (refusal ≡ Memory) ⊎ ((u : Unanswered) × (refusal ≡ Eval u) × IsUnanswered rules members fault u)

-- the first of the lines are written, each whole
abbrev pub WritesFirst : List (ℕ × List ℕ) → Option (List ℕ) → Option (List ℕ) → Type 0
WritesFirst all old new = (first : List (ℕ × List ℕ)) × ((rest : List (ℕ × List ℕ)) × (all ≡ first ++ rest)) × Appends old new (texts first)

-- why the run over the columns is refused: the sink failed, a column has no value, or memory was refused
abbrev pub IsStopped : Calculation → Option Form → Option ℕ → Option (List ℕ) → Option (List ℕ) → Refusal → Type 0
IsStopped c form lead old new refusal =
    ((refusal ≡ Write) × ((position : ℕ) × IsColumnsRun c form lead old new (Err (run.Write position))))
    ⊎ (((fault : EvalFault) × (u : Unanswered) × (refusal ≡ Eval u) × IsUnanswered c.rules c.asked.situation.members fault u × ((position : ℕ) × IsColumnsRun c form lead old new (Err (run.Eval position fault))))
    ⊎ ((refusal ≡ Memory) × WritesFirst (lines_of c form lead) old new))

-- what is answered once it is known what the text asks for
abbrev pub IsCalculated : Calculation → Option Form → Option ℕ → Option (List ℕ) → Option (List ℕ) → Result Unit Refusal → Type 0
IsCalculated c form lead old new (Ok done) = IsColumnsRun c form lead old new (Ok End)
IsCalculated c form lead old new (Err refusal) = IsStopped c form lead old new refusal

-- the text is refused under a rule set: it is no YAML, else no file of `calc`; or memory was refused
abbrev pub RefusesText : RuleSet → List ℕ → Refusal → Type 0
RefusesText rules text refusal =
    IsYamlRefused text refusal
    ⊎ ((n : Node) × (fault : RunFileFault) × (refusal ≡ RunFile fault) × (fault.kind ≢ file.Memory) × (document text ≡ Some n) × (calc_of rules.tables n ≡ Err fault))

-- the first reason for which nothing is worked out is told: the files are refused, else the text
abbrev pub RefusesCalculation : List Source → List ℕ → Refusal → Type 0
RefusesCalculation files text refusal = RefusesFiles files refusal ⊎ ((rules : RuleSet) × IsAccepted files (rule_set rules) × RefusesText rules text refusal)

-- the names of the cells
abbrev pub calc_names : List (List ℕ)
calc_names = codes "variable" ∷ codes "member" ∷ codes "period" ∷ codes "value" ∷ []

-- the line of the names is not written whole, where it is asked for, or it is, and then the lines of the columns; or memory was refused before
abbrev pub IsCalculatedIn : Calculation → TableForm → Option (List ℕ) → Option (List ℕ) → Result Unit Refusal → Type 0
IsCalculatedIn c form old new answer =
    ((refusal : Refusal) × (answer ≡ Err refusal) × IsHeaderRefused form calc_names old new refusal)
    ⊎ ((between : Option (List ℕ)) × Appends old between (header_of form calc_names) × IsCalculated c (shown_form (line_form_of form calc_names)) None between new answer)

-- what `calc` answers for these files, this text and this form, and what a sink that held `old` then holds: they are refused and nothing is written,
-- or the lines of the columns are written in order, up to the first that has no value
abbrev pub IsCalc : List Source → List ℕ → TableForm → Option (List ℕ) → Option (List ℕ) → Result Unit Refusal → Type 0
IsCalc files text form old new answer =
    ((refusal : Refusal) × (answer ≡ Err refusal) × RefusesCalculation files text refusal × Keeps old new)
    ⊎ ((c : Calculation) × IsCalculation files text c × IsCalculatedIn c form old new answer)
