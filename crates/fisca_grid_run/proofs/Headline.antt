-- What is known of a run by what it answers.
use Rattle.std.proofs.Common.{◌≡◌, ◌≤◌, ◌∙◌, inl, inr, ℕ, List, Option, Some, None, Result, Ok, Err, ap, sym, subst, string_bytes, arith}
use Rattle.std.specs.Io.KnownBytes.{Appends}
use Rattle.fisca_model.specs.declared.eval_fault.EvalFault.{EvalFault}
use Rattle.fisca_writer.specs.Continued.{IsContinued}
use Rattle.fisca_writer.specs.Lines.{AtEnd, FaultAt, MoreFrom, lines}
use Rattle.fisca_writer.specs.Ranges.{range_end, range_lines, stop_of}
use Rattle.fisca_writer.specs.Row.{Row, Fault}
use Rattle.fisca_writer.specs.Run.{told_end}
use Rattle.fisca_writer.specs.declared.fault.RunEnd.{RunEnd}
use Rattle.fisca_writer.specs.declared.fault.RunFault.{RunFault}
use Rattle.fisca_writer.specs.declared.fault.RunFault.TheVariants as run
use Rattle.fisca_writer.specs.declared.limit.Limit.{Limit}
use Rattle.fisca_params.specs.Source.{Source}
use Rattle.fisca_rule_files.specs.declared.refusal.Refusal.{Refusal}
use Rattle.fisca_rule_files.specs.declared.refusal.Refusal.TheVariants.{Run, Memory}
use Rattle.fisca_rule_files.specs.declared.refusal.Unanswered.{Unanswered}
use Rattle.fisca_grid_run.proofs.First.{first_stops}
use Rattle.fisca_grid_run.specs.Headline.{IsFaulted, IsWhole, row_of, size_of}
use Rattle.fisca_grid_run.specs.Unanswered.{key_told}
use Rattle.fisca_grid_run.specs.Forms.{IsHeaderRefused, header_of}
use Rattle.fisca_grid_run.specs.Run.{IsGridRun, IsLinesTold, IsRunAnswer, IsRunToldBy, IsRunning, IsStopTold, IsStyleIn, RefusesRunText, RefusesRunTree, RefusesRunning, Running, limit_of, start_of}
use Rattle.fisca_command_line.specs.declared.options.RunOptions.{RunOptions}
use Rattle.fisca_command_line.specs.declared.options.TableForm.{TableForm}
use Rattle.fisca_rows.specs.declared.style.RowStyle.{RowStyle}
use Rattle.fisca_scales.specs.declared.fault.ParamFault.{ParamFault}
use Rattle.fisca_rule_files.specs.Modules.{FileFault, IsRefusalOf, rules_by}
use Rattle.fisca_rule_files.specs.RuleFiles.{IsToldOf, RefusesFiles}
use Rattle.fisca_rules.specs.Rules.{Rules}
use Rattle.fisca_rules.specs.declared.rule_set.RuleSet.{RuleSet}

-- the laws of runs
abbrev pub Continues : Type 0
Continues = (row : ℕ → Row EvalFault) (size from position : ℕ) (limit : Limit) → stop_of size limit ≤ size → range_end row size from limit ≡ MoreFrom position → IsContinued row size from limit position

abbrev pub Ends : Type 0
Ends = (row : ℕ → Row EvalFault) (size from : ℕ) (limit : Limit) → stop_of size limit ≤ size → range_end row size from limit ≡ AtEnd → lines row size from None ≡ range_lines row size from limit

abbrev pub Faults : Type 0
Faults = (row : ℕ → Row EvalFault) (size from position : ℕ) (limit : Limit) (x : EvalFault) → stop_of size limit ≤ size → range_end row size from limit ≡ FaultAt position x
    → (row position ≡ Fault x) × (lines row size from None ≡ range_lines row size from limit)

whole_run : Continues → Ends → (r : Running) (style : RowStyle) (from : ℕ) (limit : Limit) (old new : Option (List ℕ)) (end : RunEnd) → IsGridRun r style from limit old new (Ok end)
    → IsWhole r style from limit old new end
whole_run continues ends r style from limit old new end ran = record {
  inside = ran.0;
  written = ran.2;
  continues = λ position e. continues (row_of r style) (size_of r) from position limit ran.0.1 (ran.1 ∙ ap (λ x. told_end {F = EvalFault} x) e);
  ended = λ e. ends (row_of r style) (size_of r) from limit ran.0.1 (ran.1 ∙ ap (λ x. told_end {F = EvalFault} x) e);
}

-- a run of this running, in one style, behind the line of the names
abbrev pub WroteWhole : Running → RunOptions → Option (List ℕ) → Option (List ℕ) → RunEnd → Type 0
WroteWhole r options old new end =
    (style : RowStyle) × IsStyleIn r options style
    × ((between : Option (List ℕ)) × Appends old between (header_of options.form r.names) × IsWhole r style (start_of r options) (limit_of r options) between new end)

whole_of : Continues → Ends → (r : Running) (options : RunOptions) (old new : Option (List ℕ)) (end : RunEnd) → IsRunToldBy r options old new (Ok end) → WroteWhole r options old new end
whole_of continues ends r options old new end (inl is) = let e = is.1 in absurd (cc)
whole_of continues ends r options old new end (inr (inl is)) = let e = is.1 in absurd (cc)
whole_of continues ends r options old new end (inr (inr (style, (styled, (between, begun, told))))) =
    (style, styled, (between, begun, whole_run continues ends r style (start_of r options) (limit_of r options) between new end told))

pub whole : Continues → Ends → (files : List Source) (text : List ℕ) (options : RunOptions) (old new : Option (List ℕ)) (end : RunEnd) → IsRunAnswer files text options old new (Ok end)
    → (r : Running) × IsRunning files text options.form r × WroteWhole r options old new end
whole continues ends files text options old new end (inl is) = let e = is.1 in absurd (cc)
whole continues ends files text options old new end (inr is) = (is.0, is.1, whole_of continues ends is.0 options old new end is.2)

-- which fault stopped a run that is told so
stopped : (r : Running) (fault : RunFault EvalFault) (position : ℕ) (u : Unanswered) → IsStopTold r.rules r.run.members fault (Run (run.Eval position u)) → fault ≡ run.Eval position u.fault
stopped r run.BadPosition position u e = absurd (cc)
stopped r (run.Eval there x) position u (inl e) = absurd (cc)
stopped r (run.Eval there x) position u (inr told) =
    let same : Run (run.Eval position u) ≡ Run (run.Eval there told.0) = told.1 in
    let place : position ≡ there = cc in
    let key : u ≡ told.0 = cc in
    let fault : u.fault ≡ x = ap (λ (v : Unanswered). v.fault) key ∙ told.2.fault in
    cc
stopped r (run.Write there) position u e = absurd (cc)
stopped r (run.Memory there) position u e = absurd (cc)

-- and the key that it is told with
key_of_stop : (r : Running) (position : ℕ) (u : Unanswered) → IsStopTold r.rules r.run.members (run.Eval position u.fault) (Run (run.Eval position u)) → key_told r.rules r.run.members u.fault ≡ Some (string_bytes u.key)
key_of_stop r position u (inl e) = absurd (cc)
key_of_stop r position u (inr told) =
    let same : Run (run.Eval position u) ≡ Run (run.Eval position told.0) = told.1 in
    let key : u ≡ told.0 = cc in
    told.2.key ∙ ap (λ (v : Unanswered). Some (string_bytes v.key)) (sym key)

-- nothing that is told before a run is told of a run
of_memory : (refusal : Refusal) (fault : RunFault Unanswered) → refusal ≡ Run fault → refusal ≡ Memory → ⊥
of_memory refusal fault e is = cc

of_file : (o : Result Rules FileFault) (refusal : Refusal) (fault : RunFault Unanswered) → refusal ≡ Run fault → IsRefusalOf o refusal → ⊥
of_file (Ok rules) refusal fault e is = of_memory refusal fault e is
of_file (Err x) refusal fault e (inl is) = of_memory refusal fault e is
of_file (Err x) refusal fault e (inr is) = cc

of_files : (files : List Source) (refusal : Refusal) (fault : RunFault Unanswered) → refusal ≡ Run fault → RefusesFiles files refusal → ⊥
of_files files refusal fault e (inl is) = let other = is.0 in cc
of_files files refusal fault e (inr (inl is)) = of_params is.1.2
  where
    of_params : {x : ParamFault} → IsToldOf files x refusal → ⊥
    of_params (inl is) = of_memory refusal fault e is
    of_params (inr is) = let other = is.2 in cc
of_files files refusal fault e (inr (inr is)) = of_file (rules_by is.0 files) refusal fault e is.2

of_text : (rules : RuleSet) (text : List ℕ) (refusal : Refusal) (fault : RunFault Unanswered) → refusal ≡ Run fault → RefusesRunText rules text refusal → ⊥
of_text rules text refusal fault e (inl (inl is)) = of_memory refusal fault e is
of_text rules text refusal fault e (inl (inr is)) = let other = is.1 in cc
of_text rules text refusal fault e (inr is) = of_tree is.2
  where
    of_tree : RefusesRunTree rules is.0 refusal → ⊥
    of_tree (inl is) = of_memory refusal fault e is
    of_tree (inr is) = let other = is.1 in cc

not_run : (files : List Source) (text : List ℕ) (refusal : Refusal) (fault : RunFault Unanswered) → refusal ≡ Run fault → RefusesRunning files text refusal → ⊥
not_run files text refusal fault e (inl is) = of_files files refusal fault e is
not_run files text refusal fault e (inr is) = of_text is.0 text refusal fault e is.2

faulted_run : Faults → (r : Running) (style : RowStyle) (from : ℕ) (limit : Limit) (old new : Option (List ℕ)) (position : ℕ) (u : Unanswered)
    → IsLinesTold r style from limit old new (Err (Run (run.Eval position u))) → IsFaulted r style from limit old new position u
faulted_run faults r style from limit old new position u told =
    let fault : told.0 ≡ run.Eval position u.fault = stopped r told.0 position u told.2 in
    let ran : IsGridRun r style from limit old new (Err (run.Eval position u.fault)) = subst (λ f. IsGridRun r style from limit old new (Err f)) fault told.1 in
    let stop : IsStopTold r.rules r.run.members (run.Eval position u.fault) (Run (run.Eval position u)) = subst (λ f. IsStopTold r.rules r.run.members f (Run (run.Eval position u))) fault told.2 in
    let first = first_stops (row_of r style) (size_of r) from limit position u.fault ran.1 in
    let low = first.0 in
    let high = first.1 in
    let room = ran.0.1 in
    let at = faults (row_of r style) (size_of r) from position limit u.fault room ran.1 in
    record { behind = low; within = omega (arith, high, room); there = at.0; first = first.2; stops = ran.1; key = key_of_stop r position u stop; written = ran.2; none_left = at.1 }

abbrev pub WroteToFault : Running → RunOptions → Option (List ℕ) → Option (List ℕ) → ℕ → Unanswered → Type 0
WroteToFault r options old new position u =
    (style : RowStyle) × IsStyleIn r options style
    × ((between : Option (List ℕ)) × Appends old between (header_of options.form r.names) × IsFaulted r style (start_of r options) (limit_of r options) between new position u)

-- the line of the names is refused by no fault
not_header : (form : TableForm) (names : List (List ℕ)) (old new : Option (List ℕ)) (refusal : Refusal) (fault : RunFault Unanswered) → refusal ≡ Run fault → IsHeaderRefused form names old new refusal → ⊥
not_header form names old new refusal fault e (inl is) = let other = is.0 in cc
not_header form names old new refusal fault e (inr is) = of_memory refusal fault e is.0

faulted_of : Faults → (r : Running) (options : RunOptions) (old new : Option (List ℕ)) (position : ℕ) (u : Unanswered) → IsRunToldBy r options old new (Err (Run (run.Eval position u)))
    → WroteToFault r options old new position u
faulted_of faults r options old new position u (inl is) = let e = is.1 in absurd (cc)
faulted_of faults r options old new position u (inr (inl is)) =
    let told : Err (Run (run.Eval position u)) ≡ Err is.0 = is.1 in
    let same : is.0 ≡ Run (run.Eval position u) = cc in
    absurd (not_header options.form r.names old new is.0 (run.Eval position u) same is.2)
faulted_of faults r options old new position u (inr (inr (style, (styled, (between, begun, told))))) =
    (style, styled, (between, begun, faulted_run faults r style (start_of r options) (limit_of r options) between new position u told))

pub faulted : Faults → (files : List Source) (text : List ℕ) (options : RunOptions) (old new : Option (List ℕ)) (position : ℕ) (u : Unanswered)
    → IsRunAnswer files text options old new (Err (Run (run.Eval position u))) → (r : Running) × IsRunning files text options.form r × WroteToFault r options old new position u
faulted faults files text options old new position u (inl is) =
    let told : Err (Run (run.Eval position u)) ≡ Err is.0 = is.1 in
    let same : is.0 ≡ Run (run.Eval position u) = cc in
    absurd (not_run files text is.0 (run.Eval position u) same is.2)
faulted faults files text options old new position u (inr is) = (is.0, is.1, faulted_of faults is.0 options old new position u is.2)
