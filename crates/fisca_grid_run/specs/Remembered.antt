-- What a run remembers of keys whose work reads no wheel: it is never forgotten, and so counted once.
use Rattle.std.specs.Prelude.{◌≡◌, ◌⊎◌, ◌↔◌, ◌<◌, ◌≤◌, ◌+◌, ℕ, List, [], ◌∷◌, length, Some, Result, Ok, Err}
use Rattle.fisca_key_semantics.specs.Answers.{most_keys}
use Rattle.fisca_key_semantics.specs.Keys.{In}
use Rattle.fisca_simulation.specs.Told.{told_in}
use Rattle.fisca_model.specs.declared.eval_fault.EvalFault.{EvalFault}
use Rattle.fisca_memo_theory.specs.Added.{AreDifferent, IsFreeKey}
use Rattle.fisca_memo_theory.specs.Entries.{Entries}
use Rattle.fisca_memo_theory.specs.Reads.{IsReads}
use Rattle.fisca_memo_theory.specs.Work.{IsWork}
use Rattle.fisca_model.specs.Seen.{key_seen}
use Rattle.fisca_model.specs.declared.key.Key as inputs
use Rattle.fisca_writer.specs.declared.fault.RunEnd.{RunEnd}
use Rattle.fisca_writer.specs.declared.fault.RunEnd.TheVariants as end
use Rattle.fisca_writer.specs.declared.fault.RunFault.{RunFault}
use Rattle.fisca_writer.specs.declared.fault.RunFault.TheVariants as fault
use Rattle.fisca_model.specs.Values.{Key}
use Rattle.fisca_evaluator.specs.Counting.{raised}
use Rattle.fisca_evaluator.specs.Evaluators.{marks_in}
use Rattle.fisca_evaluator.specs.Recalled.{marks_of}
use Rattle.fisca_evaluator.specs.declared.evaluator.Evaluator.{Evaluator}
use Rattle.fisca_evaluator.specs.Counted.{one_more}
use Rattle.fisca_evaluator.specs.declared.counts.Counts.{Counts}
use Rattle.fisca_rules.specs.declared.rule_set.RuleSet.{RuleSet}
use Rattle.fisca_rows.specs.Going.{keys_styled}
use Rattle.fisca_grid_run.specs.Kept.{IsSituated}
use Rattle.fisca_grid_run.specs.Runs.{positions}
use Rattle.fisca_rows.specs.declared.style.RowStyle.{RowStyle}
use Rattle.fisca_run_file.specs.RunFiles.{RunFile}
use Rattle.fisca_run_file.specs.Steps.Marks.{wheels_of}
use Rattle.fisca_run_file.specs.Steps.Slots.{slots_of}
use Rattle.fisca_simulation.specs.Simulations.{Simulation, normal_key, sources}

-- a key is one of these
abbrev pub IsOneOf : List inputs.Key → inputs.Key → Type 0
IsOneOf [] key = ⊥
IsOneOf (k ∷ ks) key = (key ≡ k) ⊎ IsOneOf ks key

-- the work for a key within a hundred keys that are asked for below one another
abbrev pub work_of : Simulation → inputs.Key → Key → Type 0
work_of m key = IsWork (sources m) most_keys (normal_key m.rules (key_seen key))

-- a key is of the work for one of these
abbrev pub WorkOfOne : Simulation → List inputs.Key → Key → Type 0
WorkOfOne m keys k = (key : inputs.Key) × IsOneOf keys key × work_of m key k

-- A key is of the work at a position, and reads no wheel there: some key for which the row there asks has it in its work.
pub record IsStillWork (rules : RuleSet) (style : RowStyle) (f : RunFile) (marks : Key → ℕ) (position : ℕ) (k : Key) : Type 0 where
  pub simulation : Simulation
  pub situated : IsSituated rules f (Some position) simulation
  pub work : WorkOfOne simulation (keys_styled style (told_in simulation) f.conditions f.columns) k
  pub still : IsReads marks (sources simulation) k 0

-- Of the keys of which something is remembered that reads no wheel, none is forgotten, and those that are new are just these.
pub record AreJust (old new : Entries) (work : Key → Type 0) : Type 0 where
  pub kept : (k : Key) → IsFreeKey old k → IsFreeKey new k
  pub only : (k : Key) → IsFreeKey new k → IsFreeKey old k ⊎ work k
  pub all : (k : Key) → work k → IsFreeKey new k

-- no count is lowered, but raised as far as it goes
pub record AreRaised (old new : Counts) : Type 0 where
  pub more_free : ℕ
  pub more_bound : ℕ
  pub free : new.free ≡ raised old.free more_free
  pub bound : new.bound ≡ raised old.bound more_bound

-- Rows

-- the row at a position was worked out
pub record IsPassed {R : Type 0} (find : R → Entries) (rules : RuleSet) (style : RowStyle) (f : RunFile) (old : Evaluator R) (position : ℕ) (new : Evaluator R) : Type 0 where
  pub marks : marks_in new ≡ marks_in old
  pub just : AreJust (find old.store.recall) (find new.store.recall) (IsStillWork rules style f (marks_in old) position)
  pub raised : AreRaised old.store.counts new.store.counts
  pub lost : new.store.counts.lost ≡ old.store.counts.lost

-- memory was refused: no key that reads no wheel is forgotten, and one value at most was lost; which were added is not said
pub record IsRefused {R : Type 0} (find : R → Entries) (old new : Evaluator R) : Type 0 where
  pub marks : marks_in new ≡ marks_in old
  pub kept : (k : Key) → IsFreeKey (find old.store.recall) k → IsFreeKey (find new.store.recall) k
  pub raised : AreRaised old.store.counts new.store.counts
  pub lost : (new.store.counts.lost ≡ old.store.counts.lost) ⊎ (new.store.counts.lost ≡ one_more old.store.counts.lost)

-- Runs

-- a key is of the work at one of these positions, and reads no wheel there
pub record IsStillWorkIn (rules : RuleSet) (style : RowStyle) (f : RunFile) (marks : Key → ℕ) (from stop : ℕ) (k : Key) : Type 0 where
  pub position : ℕ
  pub begun : from ≤ position
  pub ended : position < stop
  pub work : IsStillWork rules style f marks position k

-- the rows at the positions from `from` on below `stop` were worked out
pub record HasRun {R : Type 0} (find : R → Entries) (rules : RuleSet) (style : RowStyle) (f : RunFile) (from stop : ℕ) (old new : Evaluator R) : Type 0 where
  pub within : from ≤ stop
  pub marks : marks_in new ≡ marks_in old
  pub just : AreJust (find old.store.recall) (find new.store.recall) (IsStillWorkIn rules style f (marks_in old) from stop)
  pub raised : AreRaised old.store.counts new.store.counts
  pub lost : new.store.counts.lost ≡ old.store.counts.lost

-- what a run leaves behind, by what it answers: the rows up to the one that ended it were worked out
abbrev pub HasEnded : {R : Type 0} → (R → Entries) → RuleSet → RowStyle → RunFile → ℕ → Evaluator R → Evaluator R → Result RunEnd (RunFault EvalFault) → Type 0
HasEnded find rules style f from old new (Ok end.End) = HasRun find rules style f from (positions f) old new
HasEnded find rules style f from old new (Ok (end.More position)) = HasRun find rules style f from position old new
HasEnded find rules style f from old new (Err fault.BadPosition) = new ≡ old
HasEnded find rules style f from old new (Err (fault.Eval position x)) = HasRun find rules style f from (position + 1) old new
HasEnded find rules style f from old new (Err (fault.Write position)) = HasRun find rules style f from (position + 1) old new
HasEnded find rules style f from old new (Err (fault.Memory position)) = IsRefused find old new

-- Counts of a whole run

-- the wheels that move the variables of a run file
abbrev pub marks_of_run : RuleSet → RunFile → Key → ℕ
marks_of_run rules f = marks_of (wheels_of (length rules.tables.variables) (slots_of rules.tables f))

-- As many different keys as `free` says are of the work at these positions and read no wheel there, as far as the count goes, and no value was lost.
pub record AreCounts (rules : RuleSet) (style : RowStyle) (f : RunFile) (from stop : ℕ) (counts : Counts) : Type 0 where
  pub keys : List Key
  pub different : AreDifferent keys
  pub exact : (k : Key) → In k keys ↔ IsStillWorkIn rules style f (marks_of_run rules f) from stop k
  pub free : counts.free ≡ raised 0 (length keys)
  pub lost : counts.lost ≡ 0
