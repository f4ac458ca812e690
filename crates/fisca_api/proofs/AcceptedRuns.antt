-- A run that is accepted is told as a run.
use Rattle.std.proofs.Common.{◌≡◌, ℕ, List, Option, Result, Ok, Err, ap, sym, subst, ◌∙◌, inl, inr}
use Rattle.std.specs.Prelude.{◌⊎◌, codes, option_map}
use Rattle.std.specs.Io.KnownBytes.{Keeps}
use Rattle.fisca_columns.specs.Texts.{key_text}
use Rattle.fisca_grid_run.specs.Forms.{line_form_of}
use Rattle.fisca_rows.specs.Going.{styled_row}
use Rattle.fisca_grid_run.specs.Run.{IsGridRun, IsLinesTold, IsRunAnswer, IsRunToldBy, IsRunning, IsStopTold, IsStyleIn, IsStyleOf, Running, SaysRun, limit_of, start_of}
use Rattle.fisca_grid_run.specs.Runs.{positions, run_row}
use Rattle.fisca_commands.specs.Size.{IsSize, IsSizeTold}
use Rattle.fisca_grid_run.specs.Unanswered.{IsUnanswered, key_told}
use Rattle.fisca_command_line.specs.declared.options.RunOptions.{RunOptions}
use Rattle.fisca_rows.specs.declared.style.RowStyle.{RowStyle}
use Rattle.fisca_groups.specs.declared.entity_members.EntityMembers.{EntityMembers}
use Rattle.fisca_model.specs.EvalFaults.{told}
use Rattle.fisca_model.specs.Seen.{key_of}
use Rattle.fisca_model.specs.declared.eval_fault.EvalFault.{EvalFault}
use Rattle.fisca_params.specs.Source.{Source}
use Rattle.fisca_api.proofs.Alike.{row_in_style, same_row, same_styles, same_tables}
use Rattle.fisca_api.proofs.Once.{accepted_once, memory_of_run, run_once, running_once}
use Rattle.fisca_api.specs.Alike.{AreAlike}
use Rattle.fisca_rule_files.specs.RuleFiles.{IsAccepted}
use Rattle.fisca_rule_files.specs.declared.refusal.Refusal.{Refusal}
use Rattle.fisca_rule_files.specs.declared.refusal.Refusal.TheVariants.{Memory}
use Rattle.fisca_rule_files.specs.declared.refusal.Unanswered.{Unanswered}
use Rattle.fisca_rules.specs.Views.{rule_set}
use Rattle.fisca_rules.specs.declared.rule_set.RuleSet.{RuleSet}
use Rattle.fisca_run_file.specs.RunFiles.{RunFile}
use Rattle.fisca_symbols.specs.Known.{tables as known}
use Rattle.fisca_writer.specs.Run.{IsRun}
use Rattle.fisca_writer.specs.declared.fault.RunEnd.{RunEnd}
use Rattle.fisca_writer.specs.declared.fault.RunFault.{RunFault}
use Rattle.fisca_writer.specs.declared.fault.RunFault.TheVariants as run
use Rattle.fisca_writer.specs.declared.limit.Limit.{Limit}

-- Keys that are told

same_told : (a b : RuleSet) → AreAlike a b → (members : List EntityMembers) (fault : EvalFault) → key_told a members fault ≡ key_told b members fault
same_told a b alike members fault = ap (λ t. option_map (λ f. key_text (codes " ") (known t) members (key_of f.key)) (told fault)) (same_tables a b alike)

pub unanswered_alike : (a b : RuleSet) → AreAlike a b → (members : List EntityMembers) (fault : EvalFault) (u : Unanswered) → IsUnanswered a members fault u
    → IsUnanswered b members fault u
unanswered_alike a b alike members fault u is = record { fault = is.fault; key = sym (same_told a b alike members fault) ∙ is.key }

-- Runs

abbrev made : RuleSet → RunFile → List (List ℕ) → Running
made rules f names = record { rules = rules; run = f; names = names }

-- what is told of a run is told of it under a rule set that says the same
module _ (a b : RuleSet) (alike : AreAlike a b) (f : RunFile) (names : List (List ℕ)) where
  pub rows_alike : (style : RowStyle) → run_row a style f ≡ run_row b style f
  rows_alike style = λ i position. same_row a b alike style f position i

  grid_alike : (style : RowStyle) (from : ℕ) (limit : Limit) (old new : Option (List ℕ)) (x : Result RunEnd (RunFault EvalFault)) → IsGridRun (made a f names) style from limit old new x
      → IsGridRun (made b f names) style from limit old new x
  grid_alike style from limit old new x is = subst (λ row. IsRun row (positions f) from limit old new x) (rows_alike style) is

  stop_alike : (fault : RunFault EvalFault) (refusal : Refusal) → IsStopTold a f.members fault refusal → IsStopTold b f.members fault refusal
  stop_alike run.BadPosition refusal is = is
  stop_alike (run.Eval position fault) refusal (inl e) = inl e
  stop_alike (run.Eval position fault) refusal (inr is) = inr (is.0, is.1, unanswered_alike a b alike f.members fault is.0 is.2)
  stop_alike (run.Write position) refusal is = is
  stop_alike (run.Memory position) refusal is = is

  lines_alike : (style : RowStyle) (from : ℕ) (limit : Limit) (old new : Option (List ℕ)) (answer : Result RunEnd Refusal) → IsLinesTold (made a f names) style from limit old new answer
      → IsLinesTold (made b f names) style from limit old new answer
  lines_alike style from limit old new (Ok end) is = grid_alike style from limit old new (Ok end) is
  lines_alike style from limit old new (Err refusal) is = (is.0, grid_alike style from limit old new (Err is.0) is.1, stop_alike is.0 refusal is.2)

  told_alike : (options : RunOptions) (old new : Option (List ℕ)) (answer : Result RunEnd Refusal) → IsRunToldBy (made a f names) options old new answer
      → IsRunToldBy (made b f names) options old new answer
  told_alike options old new answer (inl is) = inl is
  told_alike options old new answer (inr (inl is)) = inr (inl is)
  told_alike options old new answer (inr (inr (style, (styled, (between, begun, lines))))) =
      inr (inr (style, (styled, (between, begun, lines_alike style (start_of (made a f names) options) (limit_of (made a f names) options) between new answer lines))))

pub run_told : (files : List Source) (text : List ℕ) (options : RunOptions) (r : Running) → IsRunning files text options.form r → (old new : Option (List ℕ))
    (answer : Result RunEnd Refusal) → IsRunAnswer files text options old new answer
    → IsRunToldBy r options old new answer ⊎ ((answer ≡ Err Memory) × Keeps old new)
run_told files text options r running old new answer (inl is) = inr (is.1 ∙ ap Err (memory_of_run files text r.rules r.run is.0 running.0 running.1 is.2), is.3)
run_told files text options r running old new answer (inr is) =
    let q = is.0 in
    let once = running_once files text options.form q r is.1 running in
    let file = subst (λ f. IsRunToldBy (made q.rules f q.names) options old new answer) once.1 is.2 in
    let named = subst (λ names. IsRunToldBy (made q.rules r.run names) options old new answer) once.2 file in
    inl (told_alike q.rules r.rules once.0 r.run r.names options old new answer named)

-- the rows of a run in the style that options ask for, its positions, and the names of its cells
pub same_rows : (files : List Source) (text : List ℕ) (options : RunOptions) (r q : Running) → IsRunning files text options.form r → IsRunning files text options.form q
    → (s t : RowStyle) → IsStyleIn r options s → IsStyleIn q options t → run_row q.rules t q.run ≡ run_row r.rules s r.run
same_rows files text options r q one two s t is it =
    let once = running_once files text options.form q r two one in
    let ours : IsStyleOf (line_form_of options.form r.names) options.keeps_going t = subst (λ names. IsStyleOf (line_form_of options.form names) options.keeps_going t) once.2 it in
    let style : styled_row t ≡ styled_row s = same_styles (line_form_of options.form r.names) options.keeps_going t s ours is in
    ap (λ f. run_row q.rules t f) once.1 ∙ (rows_alike q.rules r.rules once.0 r.run r.names t ∙ (λ i position. row_in_style t s style r.rules r.run position i))

-- Sizes

pub size_told : (files : List Source) (text : List ℕ) (rules : RuleSet) (f : RunFile) → IsAccepted files (rule_set rules) → SaysRun rules text f → (old new : Option (List ℕ))
    (answer : Result Unit Refusal) → IsSize files text old new answer → IsSizeTold f old new answer ⊎ ((answer ≡ Err Memory) × Keeps old new)
size_told files text rules f accepted says old new answer (inl is) = inr (is.1 ∙ ap Err (memory_of_run files text rules f is.0 accepted says is.2), is.3)
size_told files text rules f accepted says old new answer (inr is) =
    let alike : AreAlike is.0 rules = accepted_once files (rule_set is.0) (rule_set rules) is.2 accepted in
    inl (subst (λ g. IsSizeTold g old new answer) (run_once is.0 rules alike text is.1 f is.3 says) is.4)
