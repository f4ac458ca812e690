-- A formula that is followed, beside what it means.
use Rattle.std.specs.Prelude.{◌≡◌, List, [], ◌∷◌, Option, Some, None, Result, Ok, Err}
use Rattle.fisca_model.specs.Causes.{fault_at, stuck}
use Rattle.fisca_model.specs.Seen.{key_seen}
use Rattle.fisca_model.specs.Values.{Value, Key}
use Rattle.fisca_key_semantics.specs.Answers.{Halt, Oracle}
use Rattle.fisca_key_semantics.specs.Answers as answers
use Rattle.fisca_key_semantics.specs.Inquiry.{named}
use Rattle.fisca_simulation.specs.Played.{End, fault, nowhere, unanswered, value}
use Rattle.fisca_simulation.specs.declared.note.Note.{Note}
use Rattle.fisca_simulation.specs.declared.note.Note.TheVariants as note

-- the keys that are noted
abbrev pub keys_noted : List Note → List Key
keys_noted [] = []
keys_noted (note.Asked k ∷ ns) = key_seen k ∷ keys_noted ns
keys_noted (note.Read r ∷ ns) = keys_noted ns

-- the values of keys, where they have some
abbrev pub value_or_none : Result Value Halt → Option Value
value_or_none (Ok v) = Some v
value_or_none (Err h) = None

abbrev pub values_of : Oracle → Key → Option Value
values_of W k = value_or_none (W k)

abbrev pub HasNone : Result Value Halt → Type 0
HasNone (Ok v) = ⊥
HasNone (Err h) = Unit {0}

-- what an end means for the formula of a key
abbrev pub IsEnd : Key → End → Result Value Halt → Type 0
IsEnd key (value v) r = r ≡ Ok v
IsEnd key (fault e) r = r ≡ Err (answers.fault (named key e))
IsEnd key unanswered r = HasNone r
IsEnd key nowhere r = r ≡ Err (answers.fault (fault_at stuck key))
