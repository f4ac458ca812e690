-- What is answered of a range of lines, behind the line of the names where it is asked for.
use Rattle.std.proofs.Common.{◌≡◌, ◌∙◌, ◌||◌, ℕ, Bool, true, false, if◌then◌else◌, is_some, List, [], Option, Some, None, Result, Ok, Err, IfOk, MatchResult, refl, sym, ap, subst, inl, inr}
use Rattle.std.specs.Option.{unwrap_or}
use Rattle.std.specs.Io.KnownBytes.{Appends}
use Rattle.fisca_evaluator.specs.declared.counts.Counts.{Counts}
use Rattle.fisca_forms.specs.LineForms.{Form, is_plain, names_line}
use Rattle.fisca_forms.specs.declared.form.Format.TheVariants.{Tsv}
use Rattle.fisca_grid.specs.Grid.{size_of}
use Rattle.fisca_params.specs.Source.{Source}
use Rattle.fisca_rule_files.specs.declared.refusal.Refusal.{Refusal}
use Rattle.fisca_writer.specs.Run.{AppendsPart}
use Rattle.fisca_writer.specs.Ranges.{limit_in, range_start}
use Rattle.fisca_writer.specs.declared.fault.RunEnd.{RunEnd}
use Rattle.fisca_writer.specs.declared.limit.Limit.{Limit}
use Rattle.fisca_commands.specs.AxesRun.{FilteredAxes, IsAxesAnswer, IsAxesRun, IsAxesTold, IsRefused, axes_names, axes_of_words, limit_of as limit_in_axes, start_of as start_in}
use Rattle.fisca_commands.specs.Calc.{Calculation, IsCalculated, IsCalculatedIn, calc_names}
use Rattle.fisca_grid_run.specs.Ends.{end_of}
use Rattle.fisca_grid_run.specs.Forms.{IsHeaderRefused, asked_names, header_of, line_form_of, shown_form}
use Rattle.fisca_grid_run.specs.Run.{IsCounted}
use Rattle.fisca_command_line.specs.declared.options.RunOptions.{RunOptions}
use Rattle.fisca_command_line.specs.declared.options.TableForm.{TableForm}

-- a form that is plain is not shown, and another is
pub shown_none : (form : Form) → is_plain form ≡ true → shown_form form ≡ None
shown_none form is = ap (λ b. if b then None else Some form) is

pub shown_some : (form : Form) → is_plain form ≡ false → shown_form form ≡ Some form
shown_some form is = ap (λ b. if b then None else Some form) is

-- without the counts
pub lacking_of : (files : List Source) (text : List ℕ) (options : RunOptions) (old new : Option (List ℕ)) (lacked lacks : Bool) (told : Result (RunEnd × Counts) Refusal) (answer : Result RunEnd Refusal)
    → answer ≡ end_of told → IfOk told (λ ended. IsCounted files text options old new lacked lacks ended.0 ended.1)
    → IfOk answer (λ end. (counts : Counts) × IsCounted files text options old new lacked lacks end counts)
lacking_of files text options old new lacked lacks (Ok ended) answer same is =
    subst (λ a. IfOk a (λ end. (counts : Counts) × IsCounted files text options old new lacked lacks end counts)) (sym same) (ended.1, is)
lacking_of files text options old new lacked lacks (Err refusal) answer same is =
    subst (λ a. IfOk a (λ end. (counts : Counts) × IsCounted files text options old new lacked lacks end counts)) (sym same) tt

-- The columns of a file of `calc`

pub calculated_in : (c : Calculation) (form : TableForm) (made : Form) (names : List (List ℕ)) (old between new : Option (List ℕ)) (answer : Result Unit Refusal) → names ≡ calc_names
    → (made ≡ line_form_of form names) × Appends old between (header_of form names) → IsCalculated c (shown_form made) None between new answer → IsCalculatedIn c form old new answer
calculated_in c form made names old between new answer named begun is = inr (
  between,
  subst (λ ns. Appends old between (header_of form ns)) named begun.1,
  subst (λ (f : Form). IsCalculated c (shown_form f) None between new answer) (begun.0 ∙ ap (line_form_of form) named) is,
)

-- The lines of axes

pub axes_answered : (words : List (List ℕ)) (keep : Option (List ℕ)) (options : RunOptions) (old new : Option (List ℕ)) (answer : Result RunEnd Refusal) (run : FilteredAxes)
    → axes_of_words words keep ≡ Ok run → IsAxesTold words run options old new answer → IsAxesAnswer words keep options old new answer
axes_answered words keep options old new answer run is told =
    subst (λ r. MatchResult r (λ run. IsAxesTold words run options old new answer) (λ refusal. IsRefused refusal old new answer)) (sym is) told

-- a first line has all names, also where they were taken only for a form
header_asked : (form : TableForm) (names : List (List ℕ)) → header_of form (asked_names form names) ≡ header_of form names
header_asked form names = by form.header (is_some form.format) (is_some form.decimals)
  where
    by : (header formatted rounded : Bool) → (if header then names_line (unwrap_or form.format Tsv) (if (header || formatted) || rounded then names else []) else [])
        ≡ (if header then names_line (unwrap_or form.format Tsv) names else [])
    by true formatted rounded = refl
    by false formatted rounded = refl

pub header_refused : (form : TableForm) (words names : List (List ℕ)) (old new : Option (List ℕ)) (refusal : Refusal) → names ≡ asked_names form (axes_names words)
    → IsHeaderRefused form names old new refusal → IsHeaderRefused form (axes_names words) old new refusal
header_refused form words names old new refusal same (inl told) =
    inl (told.0, subst (λ text. AppendsPart text old new) (ap (header_of form) same ∙ header_asked form (axes_names words)) told.1)
header_refused form words names old new refusal same (inr told) = inr told

pub axes_told : (words : List (List ℕ)) (keep : Option (List ℕ)) (options : RunOptions) (old between new : Option (List ℕ)) (answer : Result RunEnd Refusal) (run : FilteredAxes) (made : Form)
    (names : List (List ℕ)) (size from : ℕ) (limit : Limit) → axes_of_words words keep ≡ Ok run → size ≡ size_of run.axes
    → from ≡ range_start size options.range → limit ≡ limit_in size options.range options.rows → names ≡ asked_names options.form (axes_names words)
    → (made ≡ line_form_of options.form names) × Appends old between (header_of options.form names) → IsAxesRun run (shown_form made) from limit between new answer
    → IsAxesAnswer words keep options old new answer
axes_told words keep options old between new answer run made names size from limit is same start stop named begun ran =
    axes_answered words keep options old new answer run is (inr (inr (
      between,
      subst (λ ns. Appends old between (header_of options.form ns)) named begun.1,
      subst (λ (f : Form). IsAxesRun run (shown_form f) (start_in run options) (limit_in_axes run options) between new answer) (begun.0 ∙ ap (line_form_of options.form) named)
          (subst (λ n. IsAxesRun run (shown_form made) (range_start n options.range) (limit_in n options.range options.rows) between new answer) same
          (subst (λ l. IsAxesRun run (shown_form made) (range_start size options.range) l between new answer) stop
          (subst (λ n. IsAxesRun run (shown_form made) n limit between new answer) start ran))),
    )))
