-- What `fisca run` answers and writes.
use Rattle.std.specs.Prelude.{◌≡◌, ◌≢◌, ◌⊎◌, ◌↔◌, ℕ, Bool, true, false, List, [], Option, Some, Result, Ok, Err}
use Rattle.std.specs.Io.KnownBytes.{Appends, Keeps}
use Rattle.fisca_columns.specs.declared.fault.RunFileFault.{RunFileFault}
use Rattle.fisca_columns.specs.declared.fault.RunFileKind.TheVariants as file
use Rattle.fisca_model.specs.declared.eval_fault.EvalFault.{EvalFault}
use Rattle.fisca_forms.specs.LineForms.{Form, is_plain}
use Rattle.fisca_writer.specs.Ranges.{IsBeyond, limit_in, range_start}
use Rattle.fisca_writer.specs.Run.{IsRun}
use Rattle.fisca_writer.specs.declared.limit.Limit.{Limit}
use Rattle.fisca_writer.specs.declared.fault.RunEnd.{RunEnd}
use Rattle.fisca_writer.specs.declared.fault.RunFault.{RunFault}
use Rattle.fisca_writer.specs.declared.fault.RunFault.TheVariants as run
use Rattle.fisca_groups.specs.declared.entity_members.EntityMembers.{EntityMembers}
use Rattle.fisca_params.specs.Source.{Source}
use Rattle.fisca_evaluator.specs.declared.counts.Counts.{Counts}
use Rattle.fisca_rule_files.specs.declared.refusal.Refusal.{Refusal}
use Rattle.fisca_rule_files.specs.declared.refusal.Refusal.TheVariants.{RunFile, Run, Memory}
use Rattle.fisca_rule_files.specs.declared.refusal.Unanswered.{Unanswered}
use Rattle.fisca_rule_files.specs.RuleFiles.{IsAccepted, RefusesFiles}
use Rattle.fisca_rules.specs.Views.{rule_set}
use Rattle.fisca_rules.specs.declared.rule_set.RuleSet.{RuleSet}
use Rattle.fisca_grid_run.specs.Ends.{stop_of}
use Rattle.fisca_grid_run.specs.Forms.{IsHeaderRefused, header_of, is_asked, line_form_of}
use Rattle.fisca_command_line.specs.declared.options.RunOptions.{RunOptions}
use Rattle.fisca_command_line.specs.declared.options.TableForm.{TableForm}
use Rattle.fisca_rows.specs.declared.style.RowStyle.{RowStyle}
use Rattle.fisca_rows.specs.declared.style.RowStyle.TheVariants.{Plain, Formed, Going}
use Rattle.fisca_run_file.specs.Named.{names_of}
use Rattle.fisca_grid_run.specs.Remembered.{AreCounts}
use Rattle.fisca_grid_run.specs.Runs.{LacksValue, positions, run_row}
use Rattle.fisca_run_file.specs.RunFiles as files
use Rattle.fisca_run_file.specs.RunFiles.{run_file_of}
use Rattle.fisca_yaml.specs.Grouping.{document}
use Rattle.fisca_yaml.specs.Node.{Node}
use Rattle.fisca_grid_run.specs.Yaml.{IsYamlRefused}
use Rattle.fisca_grid_run.specs.Unanswered.{IsUnanswered}

-- a rule set, as it stands in memory, the run file that a text says under it, and the names of the cells of its lines
pub record Running : Type 0 where
  pub rules : RuleSet
  pub run : files.RunFile
  pub names : List (List ℕ)

-- the text is YAML, and says this run file under the rule set
abbrev pub SaysRun : RuleSet → List ℕ → files.RunFile → Type 0
SaysRun rules text f = (n : Node) × (document text ≡ Some n) × (run_file_of rules.tables n ≡ Ok f)

-- the names of the cells that the tree says, where a form is asked for
abbrev pub IsNamedIf : Bool → Node → List (List ℕ) → Type 0
IsNamedIf true n names = names_of n ≡ Ok names
IsNamedIf false n names = names ≡ []

abbrev pub IsNamedFor : TableForm → Node → List (List ℕ) → Type 0
IsNamedFor form = IsNamedIf (is_asked form)

-- the files make the rule set, and the text says the run file under it, with these names
abbrev pub IsRunning : List Source → List ℕ → TableForm → Running → Type 0
IsRunning files text form r = IsAccepted files (rule_set r.rules) × SaysRun r.rules text r.run × ((n : Node) × (document text ≡ Some n) × IsNamedFor form n r.names)

-- where a run with these options begins, and where it ends, if before the last position
abbrev pub start_of : Running → RunOptions → ℕ
start_of r options = range_start (positions r.run) options.range

abbrev pub limit_of : Running → RunOptions → Limit
limit_of r options = limit_in (positions r.run) options.range options.rows

-- The run over the positions of the grid answers this, where a sink held `old` and then holds `new`. At each position stands the line with the values
-- that the rules define in the situation there, in this style, or nothing where a condition does not hold, or the fault for which it has none.
abbrev pub IsGridRun : Running → RowStyle → ℕ → Limit → Option (List ℕ) → Option (List ℕ) → Result RunEnd (RunFault EvalFault) → Type 0
IsGridRun r style = IsRun (run_row r.rules style r.run) (positions r.run)

-- what is told of a run that this stopped, with the names of these members; a key's text may want memory
abbrev pub IsStopTold : RuleSet → List EntityMembers → RunFault EvalFault → Refusal → Type 0
IsStopTold rules members run.BadPosition refusal = refusal ≡ Run run.BadPosition
IsStopTold rules members (run.Eval position fault) refusal =
    (refusal ≡ Run (run.Memory position)) ⊎ ((u : Unanswered) × (refusal ≡ Run (run.Eval position u)) × IsUnanswered rules members fault u)
IsStopTold rules members (run.Write position) refusal = refusal ≡ Run (run.Write position)
IsStopTold rules members (run.Memory position) refusal = refusal ≡ Run (run.Memory position)

-- what is answered of the lines of a range
abbrev pub IsLinesTold : Running → RowStyle → ℕ → Limit → Option (List ℕ) → Option (List ℕ) → Result RunEnd Refusal → Type 0
IsLinesTold r style from limit old new (Ok end) = IsGridRun r style from limit old new (Ok end)
IsLinesTold r style from limit old new (Err refusal) =
    (fault : RunFault EvalFault) × IsGridRun r style from limit old new (Err fault) × IsStopTold r.rules r.run.members fault refusal

-- how the rows of a run with these options are written
abbrev pub IsStyleOf : Form → Bool → RowStyle → Type 0
IsStyleOf form keeps_going Plain = (keeps_going ≡ false) × (is_plain form ≡ true)
IsStyleOf form keeps_going (Formed shown) = (keeps_going ≡ false) × (is_plain form ≡ false) × (shown.now ≡ form)
IsStyleOf form keeps_going (Going shown) = (keeps_going ≡ true) × (shown.now ≡ form)

abbrev pub IsStyleIn : Running → RunOptions → RowStyle → Type 0
IsStyleIn r options = IsStyleOf (line_form_of options.form r.names) options.keeps_going

-- The line of the names is written, where it is asked for, and then the lines of the range, in this style.
abbrev pub AreLinesTold : Running → RunOptions → RowStyle → Option (List ℕ) → Option (List ℕ) → Result RunEnd Refusal → Type 0
AreLinesTold r options style old new answer =
    IsStyleIn r options style × ((between : Option (List ℕ)) × Appends old between (header_of options.form r.names) × IsLinesTold r style (start_of r options) (limit_of r options) between new answer)

-- What is answered once it is known what the text says: the grid has no such start or stop, and nothing is written; or the line of the names is not
-- written whole; or it is, where it is asked for, and then the lines of the range.
abbrev pub IsRunToldBy : Running → RunOptions → Option (List ℕ) → Option (List ℕ) → Result RunEnd Refusal → Type 0
IsRunToldBy r options old new answer =
    (IsBeyond (positions r.run) (start_of r options) (limit_of r options) × (answer ≡ Err (Run run.BadPosition)) × Keeps old new)
    ⊎ (((refusal : Refusal) × (answer ≡ Err refusal) × IsHeaderRefused options.form r.names old new refusal)
    ⊎ ((style : RowStyle) × AreLinesTold r options style old new answer))

-- the tree is refused as a run file, or memory was refused
abbrev pub RefusesRunTree : RuleSet → Node → Refusal → Type 0
RefusesRunTree rules n refusal = (refusal ≡ Memory) ⊎ ((fault : RunFileFault) × (refusal ≡ RunFile fault) × (fault.kind ≢ file.Memory) × (run_file_of rules.tables n ≡ Err fault))

-- the tree has no names for the cells, which is told as of a run file, or memory was refused
abbrev pub RefusesNames : Node → Refusal → Type 0
RefusesNames n refusal = (refusal ≡ Memory) ⊎ ((fault : RunFileFault) × (refusal ≡ RunFile fault) × (names_of n ≡ Err fault))

-- the text is refused under a rule set: it is no YAML, else no run file; or memory was refused
abbrev pub RefusesRunText : RuleSet → List ℕ → Refusal → Type 0
RefusesRunText rules text refusal = IsYamlRefused text refusal ⊎ ((n : Node) × (document text ≡ Some n) × RefusesRunTree rules n refusal)

-- the first reason for which nothing is run is told: the files are refused, else the text
abbrev pub RefusesRunning : List Source → List ℕ → Refusal → Type 0
RefusesRunning files text refusal = RefusesFiles files refusal ⊎ ((rules : RuleSet) × IsAccepted files (rule_set rules) × RefusesRunText rules text refusal)

-- what `run` answers for these files, this text and these options, and what a sink that held `old` then holds: they are refused and nothing is written,
-- or the lines of the positions of the range are written, up to the limit
abbrev pub IsRunAnswer : List Source → List ℕ → RunOptions → Option (List ℕ) → Option (List ℕ) → Result RunEnd Refusal → Type 0
IsRunAnswer files text options old new answer =
    ((refusal : Refusal) × (answer ≡ Err refusal) × RefusesRunning files text refusal × Keeps old new)
    ⊎ ((r : Running) × IsRunning files text options.form r × IsRunToldBy r options old new answer)

-- Counts

-- A run that nothing stopped, whether a row had a word in the place of a value, if it was not so before, and its counts: they are those of the same
-- running as its lines, over the positions that were worked out.
pub record IsEndedIn (r : Running) (options : RunOptions) (old new : Option (List ℕ)) (lacked lacks : Bool) (end : RunEnd) (counts : Counts) : Type 0 where
  pub style : RowStyle
  pub run : AreLinesTold r options style old new (Ok end)
  pub lacking : (lacks ≡ true) ↔ ((lacked ≡ true) ⊎ LacksValue r.rules style r.run (start_of r options) (stop_of r.run end))
  pub counted : AreCounts r.rules style r.run (start_of r options) (stop_of r.run end) counts

pub record IsCounted (files : List Source) (text : List ℕ) (options : RunOptions) (old new : Option (List ℕ)) (lacked lacks : Bool) (end : RunEnd) (counts : Counts) : Type 0 where
  pub running : Running
  pub is : IsRunning files text options.form running
  pub ended : IsEndedIn running options old new lacked lacks end counts
