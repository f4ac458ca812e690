-- What `fisca calc --lines` writes, tells and answers: each line of a text is a file of `fisca calc` of its own.
use Rattle.std.specs.Prelude.{◌≡◌, ◌≢◌, ◌⊎◌, ⊤, ℕ, ◌+◌, ◌<◌, ◌≤◌, ◌^◌, max, List, [], ◌∷◌, ◌++◌, take, length, map, codes, Bool, true, false, Option, Some, None, IfSome, Result, Ok, Err}
use Rattle.std.specs.Io.KnownBytes.{Appends}
use Rattle.std.specs.List.{AllZip, FoldsTo, enumerate_from, flat_map, fold}
use Rattle.std.specs.Str.{IsUtf8}
use Rattle.fisca_folder.specs.Layers.{Told}
use Rattle.fisca_forms.specs.LineForms.{Form}
use Rattle.fisca_params.specs.Source.{Source}
use Rattle.fisca_rule_files.specs.Refusal.{is_failed_write, key_of, of_file, paths_of, place_in, reason_of, status_of}
use Rattle.fisca_rule_files.specs.RuleFiles.{IsAccepted, RefusesFiles}
use Rattle.fisca_rule_files.specs.declared.refusal.Refusal.{Refusal}
use Rattle.fisca_rule_files.specs.declared.refusal.Refusal.TheVariants.{Write, Memory}
use Rattle.fisca_rules.specs.Views.{rule_set}
use Rattle.fisca_rules.specs.declared.rule_set.RuleSet.{RuleSet}
use Rattle.fisca_writer.specs.Run.{AppendsPart}
use Rattle.fisca_writer.specs.Sink.{CountsFailure}
use Rattle.fisca_commands.specs.Calc.{Calculation, IsAsked, IsCalculated, RefusesText, calc_names}
use Rattle.fisca_rule_files.specs.Ending.{IsTold, IsUnreadTold, TaskOutcome, told_of}
use Rattle.fisca_grid_run.specs.Forms.{IsHeaderRefused, header_of, line_form_of, shown_form}
use Rattle.fisca_commands.specs.declared.many_files.LineFault.{LineFault}
use Rattle.fisca_commands.specs.declared.many_files.LineFault.TheVariants as fault
use Rattle.fisca_commands.specs.declared.many_files.LineStop.{LineStop}
use Rattle.fisca_commands.specs.declared.many_files.LineStop.TheVariants as stop
use Rattle.fisca_command_line.specs.declared.options.TableForm.{TableForm}

-- Where lines come from, and where they go

-- of these lines, if the source tells them, the first is given by its first bytes, or there is none; where it cannot be read, the source tells no more
abbrev pub IsNextLine : ℕ → Option (List (List ℕ)) → Option (List (List ℕ)) → List ℕ → Result Bool LineFault → Type 0
IsNextLine most None new bytes answer = ⊤
IsNextLine most (Some []) new bytes (Ok is) = (is ≡ false) × (new ≡ Some [])
IsNextLine most (Some (text ∷ rest)) new bytes (Ok is) = (is ≡ true) × (bytes ≡ take most text) × (new ≡ Some rest)
IsNextLine most (Some texts) new bytes (Err fault.Read) = new ≡ None
IsNextLine most (Some texts) new bytes (Err fault.Memory) = ⊤

-- what a sink has, if it tells, and how often it failed
pub record Sink : Type 0 where
  pub taken : Option (List ℕ)
  pub failures : ℕ

-- it takes these bytes
abbrev pub Takes : Sink → List ℕ → Sink → Type 0
Takes old bytes new = Appends old.taken new.taken bytes × CountsFailure false old.failures new.failures

-- it is handed these bytes once: it takes them, or it fails and has a proper beginning of them
abbrev pub IsHanded : Sink → List ℕ → Sink → Type 0
IsHanded old bytes new = Takes old bytes new ⊎ (AppendsPart bytes old.taken new.taken × CountsFailure true old.failures new.failures)

-- the lines that a source has left, if it tells, the sink that is written to, and the one that is told what is refused
pub record Streams : Type 0 where
  pub left : Option (List (List ℕ))
  pub sink : Sink
  pub told : Sink

abbrev pub streams_of : Option (List (List ℕ)) → Option (List ℕ) → ℕ → Option (List ℕ) → ℕ → Streams
streams_of left taken failures told told_failures =
    record { left = left; sink = record { taken = taken; failures = failures }; told = record { taken = told; failures = told_failures } }

-- One line

-- a text of at most 1 MiB
abbrev pub IsFile : List ℕ → Type 0
IsFile text = (length text ≤ 2 ^ 20) × IsUtf8 text

-- what `calc` answers of such a text under a rule set, and what it writes: its refusal and nothing, or the lines of its columns up to the first that has no
-- value, each behind the number of the text's line
abbrev pub IsCalcOf : RuleSet → Option Form → ℕ → List ℕ → List ℕ → Result Unit Refusal → Type 0
IsCalcOf rules form number text written answer =
    ((refusal : Refusal) × (answer ≡ Err refusal) × RefusesText rules text refusal × (written ≡ []))
    ⊎ ((c : Calculation) × (c.rules ≡ rules) × IsAsked rules text c.asked × IsCalculated c form (Some number) (Some []) (Some written) answer)

-- what comes of a line: what is written, what is told, and an exit status
pub record LineOutcome : Type 0 where
  pub written : List ℕ
  pub told : List ℕ
  pub status : ℕ

-- a word that is told of a line of the file at a path
abbrev pub line_told : List ℕ → ℕ → List ℕ → List ℕ
line_told path number word = codes "fisca: " ++ (place_in path number ++ (word ++ 10 ∷ []))

-- a line of which only this is told
abbrev pub only_told : List ℕ → ℕ → LineOutcome
only_told told status = record { written = []; told = told; status = status }

-- what comes of a line that `calc` answers so: a refusal is told by its word and its key, and has its status
abbrev pub outcome_of : List ℕ → ℕ → List ℕ → Result Unit Refusal → LineOutcome
outcome_of path number written (Ok done) = record { written = written; told = []; status = 0 }
outcome_of path number written (Err refusal) = record { written = written; told = line_told path number (reason_of refusal ++ key_of refusal); status = status_of refusal }

-- the answer ends no command: neither the sink failed nor memory was refused
abbrev pub IsOfLine : Result Unit Refusal → Type 0
IsOfLine (Ok done) = ⊤
IsOfLine (Err refusal) = (refusal ≢ Write) × (refusal ≢ Memory)

-- what comes of the line with this number of the file at a path: it is too long or no text, and is told so, or it is a file of `calc`
abbrev pub IsLine : RuleSet → Option Form → List ℕ → ℕ → List ℕ → LineOutcome → Type 0
IsLine rules form path number text outcome =
    ((2 ^ 20 < length text) × (outcome ≡ only_told (line_told path number (codes "TooLong")) 3))
    ⊎ (((length text ≤ 2 ^ 20) × (IsUtf8 text → ⊥) × (outcome ≡ only_told (line_told path number (codes "cannot read")) 5))
    ⊎ (IsFile text × ((written : List ℕ) × (answer : Result Unit Refusal) × IsOfLine answer × IsCalcOf rules form number text written answer × (outcome ≡ outcome_of path number written answer))))

-- All lines

-- what comes of lines, counted from 1
abbrev pub AreLines : RuleSet → Option Form → List ℕ → List (List ℕ) → List LineOutcome → Type 0
AreLines rules form path texts outcomes = AllZip (λ line outcome. IsLine rules form path line.0 line.1 outcome) (enumerate_from 1 texts) outcomes

-- the greatest status, 0 where there is no line
abbrev pub worst_of : List LineOutcome → ℕ
worst_of outcomes = fold max 0 (map (λ outcome. outcome.status) outcomes)

-- why no further line is worked out, where these are left and what is written of the first of them: there is none; it cannot be read; or at this number
-- the sink failed, or memory was refused, in what `calc` writes of it or before
abbrev pub IsStopped : RuleSet → Option Form → ℕ → Option (List (List ℕ)) → Option (List (List ℕ)) → List (List ℕ) → List ℕ → LineStop → Type 0
IsStopped rules form number old new rest part stop.Over = (rest ≡ []) × (part ≡ [])
IsStopped rules form number old new rest part stop.Unread = IfSome old (λ texts. new ≡ None) × (part ≡ [])
IsStopped rules form number old new rest part stop.Write =
    (text : List ℕ) × (others : List (List ℕ)) × (rest ≡ text ∷ others) × IsFile text × IsCalcOf rules form number text part (Err Write)
IsStopped rules form number old new rest part stop.Memory =
    (part ≡ [])
    ⊎ ((text : List ℕ) × (others : List (List ℕ)) × (rest ≡ text ∷ others) × IsFile text × ((refusal : Refusal) × (is_failed_write refusal ≡ false) × IsCalcOf rules form number text part (Err refusal)))

-- the sink failed
abbrev pub is_write : LineStop → Bool
is_write stop.Over = false
is_write stop.Unread = false
is_write stop.Write = true
is_write stop.Memory = false

-- what the command answers then, where this is the greatest status of the lines
abbrev pub IsEndedBy : List ℕ → ℕ → LineStop → TaskOutcome → Type 0
IsEndedBy path worst stop.Over outcome = outcome ≡ record { status = worst; told = None }
IsEndedBy path worst stop.Unread outcome = IsUnreadTold path outcome
IsEndedBy path worst stop.Write outcome = outcome ≡ told_of (of_file path) Write
IsEndedBy path worst stop.Memory outcome = outcome ≡ told_of (of_file path) Memory

-- The lines of a source are worked out in order, each by itself, up to where something stops them: what is written of them stands in one row, what is told
-- of each is handed over once, whether or not that fails, and the greatest of their statuses is answered.
pub record AreWorkedOut (rules : RuleSet) (form : Option Form) (path : List ℕ) (old new : Streams) (outcome : TaskOutcome) : Type 0 where
  pub texts : List (List ℕ)
  pub rest : List (List ℕ)
  pub had : IfSome old.left (λ all. all ≡ texts ++ rest)
  pub outcomes : List LineOutcome
  pub each : AreLines rules form path texts outcomes
  pub part : List ℕ
  pub stop : LineStop
  pub stopped : IsStopped rules form (1 + length texts) old.left new.left rest part stop
  pub written : Appends old.sink.taken new.sink.taken (flat_map (λ outcome. outcome.written) outcomes ++ part)
  pub failed : CountsFailure (is_write stop) old.sink.failures new.sink.failures
  pub told : FoldsTo IsHanded old.told (map (λ outcome. outcome.told) outcomes) new.told
  pub ended : IsEndedBy path (worst_of outcomes) stop outcome

-- the names of the cells
abbrev pub line_names : List (List ℕ)
line_names = codes "line" ∷ calc_names

-- under a rule set: the line of the names is not written whole, where it is asked for, or it is, and then the lines are worked out
abbrev pub AreBegun : RuleSet → List ℕ → TableForm → Streams → Streams → TaskOutcome → Type 0
AreBegun rules path form old new outcome =
    ((refusal : Refusal) × IsHeaderRefused form line_names old.sink.taken new.sink.taken refusal × CountsFailure (is_failed_write refusal) old.sink.failures new.sink.failures
    × Takes old.told [] new.told × IsTold (of_file path) refusal outcome)
    ⊎ ((between : Sink) × Takes old.sink (header_of form line_names) between
    × AreWorkedOut rules (shown_form (line_form_of form line_names)) path (record { left = old.left; sink = between; told = old.told }) new outcome)

-- what the command answers for these files, whose paths are told so, the lines of the file at a path, and this form: the files are refused and nothing is written
-- or told, or they make a rule set, and the lines are worked out under it
abbrev pub IsCalcLines : List Source → List Told → List ℕ → TableForm → Streams → Streams → TaskOutcome → Type 0
IsCalcLines files told path form old new outcome =
    ((refusal : Refusal) × RefusesFiles files refusal × IsTold (paths_of path told) refusal outcome × Takes old.sink [] new.sink × Takes old.told [] new.told)
    ⊎ ((rules : RuleSet) × IsAccepted files (rule_set rules) × AreBegun rules path form old new outcome)
