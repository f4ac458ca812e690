-- The answer of a key that is asked for below others, the one that was asked for first at the head.
use Rattle.std.specs.Prelude.{ℕ, ◌-◌, List, [], ◌∷◌, ◌++◌, length, Result, Ok, Err}
use Rattle.fisca_model.specs.Values.{Value, Key}
use Rattle.fisca_model.specs.Causes.{Fault}
use Rattle.fisca_key_semantics.specs.Inquiry.{Inquiry}
use Rattle.fisca_key_semantics.specs.Answers.{Halt, fault, out, Source, Sources, refused, known, formula, outcome, value_within, verdict, most_keys}

-- the key that was asked for first
abbrev pub first_of : List Key → Key → Key
first_of [] key = key
first_of (k ∷ ks) key = k

-- a chain from the key is longer by those above it
abbrev pub settled_below : List Key → Key → Result Value Halt → Result Value Fault
settled_below above key (Ok v) = Ok v
settled_below above key (Err (fault f)) = Err f
settled_below above key (Err (out chain)) = Err (verdict (first_of above key) (above ++ chain))

-- the fuel that is left
abbrev pub left_below : List Key → ℕ
left_below above = most_keys - length above

abbrev pub answer_below : Sources → List Key → Key → Result Value Fault
answer_below src above key = settled_below above key (value_within src (left_below above) key)

-- how an inquiry of the key ends, which is the last of the stack
abbrev pub ends_below : Sources → List Key → Key → Inquiry → Result Value Fault
ends_below src stack key d = settled_below stack key (outcome (value_within src (left_below stack)) d)

-- the period of the key fits
abbrev pub IsAskable : Source → Type 0
IsAskable refused = ⊥
IsAskable (known v) = Unit {0}
IsAskable (formula q) = Unit {0}
