-- The values of keys that are asked for below others, from memory.
use Rattle.std.specs.Prelude.{ℕ, zero, suc, nat_lt, if◌then◌else◌, Option, Some, None}
use Rattle.fisca_key_semantics.specs.Answers.{Source, Sources, refused, known, formula}
use Rattle.fisca_memo_theory.specs.Entries.{Entry, Entries}
use Rattle.fisca_model.specs.Values.{Value, Key}

-- what is remembered counts where its chain is not too long
abbrev pub if_low : ℕ → Option Entry → Option Value
if_low left None = None
if_low left (Some e) = if nat_lt left e.height then None else Some e.value

-- what is at hand counts where one key more may be asked for
abbrev pub if_left : ℕ → Option Value → Option Value
if_left zero o = None
if_left (suc left) o = o

abbrev pub answer_by : ℕ → Option Entry → Source → Option Value
answer_by left o refused = None
answer_by left o (known v) = if_left left (Some v)
answer_by left o (formula d) = if_low left o

-- where so many keys may still be asked for below one another
abbrev pub answers_by : Sources → Entries → ℕ → Key → Option Value
answers_by src entries left k = answer_by left (entries k) (src k)
