-- What a run worked out on its way.
use Rattle.std.specs.Prelude.{◌≡◌, ℕ, zero, suc, ◌+◌, ◌-◌, ◌≤◌, Result, Ok, Err}
use Rattle.fisca_writer.specs.declared.rows.Selection.{Selection}
use Rattle.fisca_writer.specs.declared.fault.RowFault.{RowFault}
use Rattle.fisca_writer.specs.declared.fault.RowFault.TheVariants as row
use Rattle.fisca_writer.specs.declared.fault.RunEnd.{RunEnd}
use Rattle.fisca_writer.specs.declared.fault.RunEnd.TheVariants as answer
use Rattle.fisca_writer.specs.declared.fault.RunFault.{RunFault}
use Rattle.fisca_writer.specs.declared.fault.RunFault.TheVariants as fault

-- one way where a row was worked out, another where memory was refused meanwhile
abbrev pub IsStep : {F : Type 0} → Type 0 → Type 0 → Result Selection (RowFault F) → Type 0
IsStep worked refused (Ok selection) = worked
IsStep worked refused (Err (row.Eval x)) = worked
IsStep worked refused (Err row.Memory) = refused

-- the same for a row that is then written
abbrev pub IsRowStep : {F : Type 0} → Type 0 → Type 0 → Result Selection (RunFault F) → Type 0
IsRowStep worked refused (Ok selection) = worked
IsRowStep worked refused (Err fault.BadPosition) = ⊥
IsRowStep worked refused (Err (fault.Eval position x)) = worked
IsRowStep worked refused (Err (fault.Write position)) = worked
IsRowStep worked refused (Err (fault.Memory position)) = refused

-- from `old` to `new` by steps at so many positions from `from` on, in order, each once
abbrev pub Passes : {S : Type 0} → (S → ℕ → S → Type 0) → S → ℕ → ℕ → S → Type 0
Passes step old from zero new = new ≡ old
Passes {S} step old from (suc count) new = (between : S) × Passes step old from count between × step between (from + count) new

-- the positions from `from` on below `stop` were worked out
abbrev pub HasPassed : {S : Type 0} → (S → ℕ → S → Type 0) → ℕ → ℕ → S → S → Type 0
HasPassed step from stop old new = (from ≤ stop) × Passes step old from (stop - from) new

-- the positions were worked out up to the one that ended the run
abbrev pub HasCome : {S F : Type 0} → (S → ℕ → S → Type 0) → (S → ℕ → S → Type 0) → ℕ → ℕ → S → S → Result RunEnd (RunFault F) → Type 0
HasCome worked refused size from old new (Ok answer.End) = HasPassed worked from size old new
HasCome worked refused size from old new (Ok (answer.More position)) = HasPassed worked from position old new
HasCome worked refused size from old new (Err fault.BadPosition) = new ≡ old
HasCome worked refused size from old new (Err (fault.Eval position x)) = HasPassed worked from (position + 1) old new
HasCome worked refused size from old new (Err (fault.Write position)) = HasPassed worked from (position + 1) old new
HasCome {S} worked refused size from old new (Err (fault.Memory position)) = (between : S) × HasPassed worked from position old between × refused between position new
