-- Which wheels the work for a key reads. A wheel is a group of axes that turn together; the marks of a key are the wheels that may change what its value comes from.
use Rattle.std.specs.Prelude.{◌≡◌, ◌⊎◌, ◌↔◌, ℕ, zero, suc, Bool, true, ◌==◌, if◌then◌else◌, Option, None, Some}
use Rattle.std.specs.Int.{bit_at}
use Rattle.fisca_model.specs.Values.{Key}
use Rattle.fisca_key_semantics.specs.Answers.{Sources, formula, value_within}
use Rattle.fisca_key_semantics.specs.Chains.{IsDefinite, asked}
use Rattle.fisca_key_semantics.specs.Inquiry.{Inquiry}
use Rattle.fisca_key_semantics.specs.Keys.{In}
use Rattle.fisca_memo_theory.specs.Entries.{Entry, Entries}

-- the set of wheels has the wheel
abbrev pub reads_wheel : ℕ → ℕ → Bool
reads_wheel wheels wheel = bit_at wheels wheel == 1

-- the key has the wheel's mark
abbrev pub Moves : (Key → ℕ) → ℕ → Key → Type 0
Moves marks wheel key = reads_wheel (marks key) wheel ≡ true

-- within this fuel the work of the key reads a key that moves: itself, or what is read by one that it asks for
unfoldable pub ReadsAt : (Key → Type 0) → Sources → ℕ → Key → Type 0
ReadsAt moves src zero key = moves key
ReadsAt moves src (suc n) key = moves key ⊎ ((d : Inquiry) × (src key ≡ formula d) × (j : Key) × In j (asked (value_within src n) d) × ReadsAt moves src n j)

-- these are just the wheels that the key reads, within each fuel that gives it a definite answer
abbrev pub IsReads : (Key → ℕ) → Sources → Key → ℕ → Type 0
IsReads marks src key wheels = (n : ℕ) → IsDefinite (value_within src n key) → (wheel : ℕ) → (reads_wheel wheels wheel ≡ true) ↔ ReadsAt (Moves marks wheel) src n key

-- each entry has what its key reads
abbrev pub AreReads : (Key → ℕ) → Sources → Entries → Type 0
AreReads marks src entries = (key : Key) (e : Entry) → entries key ≡ Some e → IsReads marks src key e.reads

-- an entry, unless it reads the wheel
abbrev pub unless_moved : ℕ → Option Entry → Option Entry
unless_moved wheel None = None
unless_moved wheel (Some e) = if reads_wheel e.reads wheel then None else Some e
