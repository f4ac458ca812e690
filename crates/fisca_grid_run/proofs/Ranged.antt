-- What is answered of a range of the lines of a run file, behind the line of the names where it is asked for.
use Rattle.std.proofs.Common.{◌≡◌, ◌≤◌, ◌<◌, ◌∙◌, ◌⊎◌, ◌↔◌, ℕ, Bool, true, List, Option, Some, Result, Ok, Err, IfOk, sym, ap, subst, inl, inr, ⊎_elim}
use Rattle.std.proofs.lemmas.Bool.{cases_lt}
use Rattle.std.specs.Io.KnownBytes.{Appends}
use Rattle.fisca_columns.specs.declared.fault.RunFileFault.{RunFileFault}
use Rattle.fisca_evaluator.specs.declared.counts.Counts.{Counts}
use Rattle.fisca_forms.specs.LineForms.{Form}
use Rattle.fisca_num.specs.Results.{and_then}
use Rattle.fisca_params.specs.Source.{Source}
use Rattle.fisca_rule_files.specs.declared.refusal.Refusal.{Refusal}
use Rattle.fisca_rules.specs.declared.rule_set.RuleSet.{RuleSet}
use Rattle.fisca_run.proofs.Files.{read_from}
use Rattle.fisca_run_file.specs.Named.{cell_names, names_of}
use Rattle.fisca_run_file.specs.RunFiles.{RunFile, run_file_of}
use Rattle.fisca_symbols.specs.declared.tables.Tables.{Tables}
use Rattle.fisca_writer.specs.Ranges.{IsBeyond, IsInside, limit_in, range_start, stop_of as stop_in}
use Rattle.fisca_writer.specs.declared.fault.RunEnd.{RunEnd}
use Rattle.fisca_writer.specs.declared.limit.Limit.{Limit}
use Rattle.fisca_yaml.specs.Grouping.{document}
use Rattle.fisca_yaml.specs.Node.{Node}
use Rattle.fisca_grid_run.specs.Ends.{HasLacked, end_of, stop_of}
use Rattle.fisca_grid_run.specs.Forms.{header_of, line_form_of}
use Rattle.fisca_grid_run.specs.Remembered.{AreCounts}
use Rattle.fisca_grid_run.specs.Run.{AreLinesTold, IsCounted, IsEndedIn, IsLinesTold, IsRunning, IsStyleOf, RefusesNames, RefusesRunText, Running, start_of}
use Rattle.fisca_grid_run.specs.Runs.{LacksValue, positions}
use Rattle.fisca_command_line.specs.declared.options.RunOptions.{RunOptions}
use Rattle.fisca_rows.specs.declared.style.RowStyle.{RowStyle}

-- a start or a stop that is not there
beyond : (size from : ℕ) (limit : Limit) → (IsInside size from limit → ⊥) → IsBeyond size from limit
beyond size from limit outside = ⊎_elim
    (λ (less : size < from). inl less)
    (λ (low : from ≤ size). ⊎_elim (λ (less : size < stop_in size limit). inr less) (λ (room : stop_in size limit ≤ size). absurd (outside (low, room))) (cases_lt size (stop_in size limit)))
    (cases_lt size from)

pub beyond_at : (size there from : ℕ) (options : RunOptions) (limit : Limit) → size ≡ there → from ≡ range_start size options.range → limit ≡ limit_in size options.range options.rows
    → (IsInside size from limit → ⊥) → IsBeyond there (range_start there options.range) (limit_in there options.range options.rows)
beyond_at size there from options limit same start stop outside =
    subst (λ n. IsBeyond n (range_start n options.range) (limit_in n options.range options.rows)) same
    (subst (λ l. IsBeyond size (range_start size options.range) l) stop (subst (λ n. IsBeyond size n limit) start (beyond size from limit outside)))

-- a tree that says a run file has names for its cells
names_there : (c : Tables) (n : Node) (f : RunFile) (fault : RunFileFault) → run_file_of c n ≡ Ok f → names_of n ≡ Err fault → ⊥
names_there c n f fault read none =
    let says = (read_from c n f read).movement.says in
    let names = ap (λ r. and_then r (λ a. Ok (cell_names n a))) says in
    let other = sym names ∙ none in
    cc

pub names_refused : (rules : RuleSet) (text : List ℕ) (n : Node) (f : RunFile) (refusal : Refusal) → document text ≡ Some n → run_file_of rules.tables n ≡ Ok f → RefusesNames n refusal
    → RefusesRunText rules text refusal
names_refused rules text n f refusal there read (inl memory) = inr (n, there, inl memory)
names_refused rules text n f refusal there read (inr told) = absurd (names_there rules.tables n f told.0 read told.2)

-- the names say nothing of the lines
pub lines_named : (rules : RuleSet) (f : RunFile) (names others : List (List ℕ)) (style : RowStyle) (from : ℕ) (limit : Limit) (old new : Option (List ℕ)) (answer : Result RunEnd Refusal)
    → IsLinesTold (record { rules = rules; run = f; names = names }) style from limit old new answer → IsLinesTold (record { rules = rules; run = f; names = others }) style from limit old new answer
lines_named rules f names others style from limit old new (Ok end) told = told
lines_named rules f names others style from limit old new (Err refusal) told = told

module _ (r : Running) (options : RunOptions) where
  -- behind the line of the names
  pub lines_told : (made : Form) (style : RowStyle) (size from : ℕ) (limit : Limit) (old between new : Option (List ℕ)) (answer : Result RunEnd Refusal)
      → size ≡ positions r.run → from ≡ range_start size options.range → limit ≡ limit_in size options.range options.rows
      → (made ≡ line_form_of options.form r.names) × Appends old between (header_of options.form r.names) → IsStyleOf made options.keeps_going style
      → IsLinesTold r style from limit between new answer → AreLinesTold r options style old new answer
  lines_told made style size from limit old between new answer same start stop begun styled told = (
    subst (λ form. IsStyleOf form options.keeps_going style) begun.0 styled,
    (
      between,
      begun.1,
      subst (λ n. IsLinesTold r style (range_start n options.range) (limit_in n options.range options.rows) between new answer) same
          (subst (λ l. IsLinesTold r style (range_start size options.range) l between new answer) stop (subst (λ n. IsLinesTold r style n limit between new answer) start told)),
    ),
  )

  pub ended_in : (style : RowStyle) (size from : ℕ) (old new : Option (List ℕ)) (lacked lacks : Bool) (answer : Result (RunEnd × Counts) Refusal)
      → size ≡ positions r.run → from ≡ range_start size options.range → AreLinesTold r options style old new (end_of answer)
      → HasLacked r.rules style r.run from lacked lacks (end_of answer) → IfOk answer (λ ended. AreCounts r.rules style r.run from (stop_of r.run ended.0) ended.1)
      → IfOk answer (λ ended. IsEndedIn r options old new lacked lacks ended.0 ended.1)
  ended_in style size from old new lacked lacks (Ok ended) same start told lacking counted =
      let at : from ≡ start_of r options = start ∙ ap (λ n. range_start n options.range) same in
      record {
        style = style;
        run = told;
        lacking = subst (λ n. (lacks ≡ true) ↔ ((lacked ≡ true) ⊎ LacksValue r.rules style r.run n (stop_of r.run ended.0))) at lacking;
        counted = subst (λ n. AreCounts r.rules style r.run n (stop_of r.run ended.0) ended.1) at counted;
      }
  ended_in style size from old new lacked lacks (Err refusal) same start told lacking counted = tt

-- of the running whose lines were written
pub are_counted : (files : List Source) (text : List ℕ) (options : RunOptions) (old new : Option (List ℕ)) (r : Running) (lacked lacks : Bool) (answer : Result (RunEnd × Counts) Refusal)
    → IsRunning files text options.form r → IfOk answer (λ ended. IsEndedIn r options old new lacked lacks ended.0 ended.1)
    → IfOk answer (λ ended. IsCounted files text options old new lacked lacks ended.0 ended.1)
are_counted files text options old new r lacked lacks (Ok ended) is told = record { running = r; is = is; ended = told }
are_counted files text options old new r lacked lacks (Err refusal) is told = tt
