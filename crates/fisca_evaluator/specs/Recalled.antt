-- What is remembered where keys are worked out below one another.
use Rattle.std.specs.Prelude.{◌≡◌, ⊤, ◌⊎◌, ℕ, suc, List, [], ◌∷◌, ◌++◌, map, slice_get, Option, Some, None}
use Rattle.std.specs.Option.{unwrap_or}
use Rattle.fisca_key_semantics.specs.Answers.{Sources}
use Rattle.fisca_model.specs.Causes.{Fault}
use Rattle.fisca_key_semantics.specs.Stacks.{left_below}
use Rattle.fisca_memo_theory.specs.Entries.{Entries, Remembered}
use Rattle.fisca_memo_theory.specs.Memory.{IsKnown, IsTrueMemory}
use Rattle.fisca_memo_theory.specs.Reads.{AreReads}
use Rattle.fisca_memo_theory.specs.Stacks as stacks
use Rattle.fisca_memo_theory.specs.Work.{IsWork, PassedPath}
use Rattle.fisca_model.specs.Seen.{key_seen, value_seen}
use Rattle.fisca_model.specs.declared.key.Key.{Key}
use Rattle.fisca_model.specs.Values as meaning
use Rattle.fisca_evaluator.specs.declared.known.Known.{Known}
use Rattle.fisca_evaluator.specs.Counting.{CountsFree}

-- the wheels of each key's variable, by its place, as the bits of numbers; past the last number there is none
abbrev pub marks_of : List ℕ → meaning.Key → ℕ
marks_of wheels k = unwrap_or (slice_get wheels k.variable) 0

-- what is remembered is true, and has what its keys read, and those that read no wheel are counted
pub record IsMemory (marks : meaning.Key → ℕ) (src : Sources) (entries : Entries) (free : ℕ) : Type 0 where
  pub truth : IsTrueMemory src entries
  pub reads : AreReads marks src entries
  pub frees : CountsFree entries free

-- what is told of an answer is so; want of memory tells nothing
abbrev pub IfTold : Option Fault → Type 0 → Type 0
IfTold None P = ⊤
IfTold (Some f) P = P

-- the keys differ, each asks for the next, and the last one for this key
abbrev pub IsStack : Sources → List Key → Key → Type 0
IsStack src keys key = stacks.IsStack src (map key_seen keys) (key_seen key)

-- the same, where the last is the key
abbrev pub IsWorking : Sources → List Key → Key → Type 0
IsWorking src keys key = stacks.IsWorking src (map key_seen keys) (key_seen key)

-- each key passed on to the next: what it asked for before is remembered with all its work
abbrev pub HasPassed : Sources → Entries → List Key → Type 0
HasPassed src entries keys = PassedPath src (Remembered entries) (map key_seen keys)

abbrev pub HasPassedTo : Sources → Entries → List Key → Key → Type 0
HasPassedTo src entries keys key = PassedPath src (Remembered entries) (map key_seen keys ++ key_seen key ∷ [])

-- the value and the height of the key within what fuel is left below these
abbrev pub IsKnownBelow : Sources → List Key → Key → Known → Type 0
IsKnownBelow src keys key k = IsKnown src (left_below (map key_seen keys)) (key_seen key) (value_seen k.value) k.height

-- the value of the key within its height
abbrev pub IsKnownOf : Sources → Key → Known → Type 0
IsKnownOf src key k = IsKnown src k.height (key_seen key) (value_seen k.value) k.height

-- the work of the key below these
abbrev pub work_below : Sources → List Key → Key → meaning.Key → Type 0
work_below src keys key = IsWork src (left_below (map key_seen keys)) (key_seen key)

-- all work of the key below these is remembered
abbrev pub IsDoneBelow : Sources → Entries → List Key → Key → Type 0
IsDoneBelow src entries keys key = (k : meaning.Key) → work_below src keys key k → Remembered entries k

-- with the last of these keys, the key itself
abbrev pub IsKnownAt : Sources → List Key → Key → Known → Type 0
IsKnownAt src keys key k = IsKnown src (suc (left_below (map key_seen keys))) (key_seen key) (value_seen k.value) k.height

abbrev pub work_at : Sources → List Key → Key → meaning.Key → Type 0
work_at src keys key = IsWork src (suc (left_below (map key_seen keys))) (key_seen key)

abbrev pub IsDoneAt : Sources → Entries → List Key → Key → Type 0
IsDoneAt src entries keys key = (k : meaning.Key) → work_at src keys key k → Remembered entries k

-- within each fuel, all work of the key but itself is remembered
abbrev pub IsAllButItself : Sources → Entries → Key → Type 0
IsAllButItself src entries key = (n : ℕ) (k : meaning.Key) → IsWork src n (key_seen key) k → (k ≡ key_seen key) ⊎ Remembered entries k
