-- How the value of a key came about, with what formulas read: entries in order, each formula followed once, and no deeper than so many levels.
use Rattle.std.specs.Prelude.{ℕ, zero, suc, List, [], ◌∷◌, ◌++◌, if◌then◌else◌, Option, Some, None}
use Rattle.fisca_explanation.specs.Explanations.{Reason, unfit, at_hand, beyond, worked, above}
use Rattle.fisca_key_semantics.specs.Answers.{Source, Sources, refused, known, formula}
use Rattle.fisca_key_semantics.specs.Keys.{has}
use Rattle.fisca_model.specs.Seen.{key_seen}
use Rattle.fisca_model.specs.Values.{Key, Value}
use Rattle.fisca_simulation.specs.declared.note.Note.{Note}
use Rattle.fisca_simulation.specs.declared.note.Note.TheVariants as note
use Rattle.fisca_simulation.specs.declared.note.Reading.{Reading}

pub data Entry : Type 0 where
  -- a key below so many others, with its value there, where it has one
  of_key : ℕ → Key → Option Value → Reason → Entry
  -- what the formula of the key above read
  of_reading : ℕ → Reading → Entry

-- entries, and the keys whose formulas were followed in them and before them
pub record Told : Type 0 where
  pub entries : List Entry
  pub followed : List Key

abbrev pub alone : Entry → List Key → Told
alone e before = record { entries = e ∷ []; followed = before }

abbrev pub over : Entry → Told → Told
over e below = record { entries = e ∷ below.entries; followed = below.followed }

abbrev pub behind : Told → Told → Told
behind first rest = record { entries = first.entries ++ rest.entries; followed = rest.followed }

-- what a formula needs, in order, below so many keys
abbrev pub notes_in_turn : (List Key → Key → Told) → ℕ → List Key → List Note → Told
notes_in_turn tell depth before [] = record { entries = []; followed = before }
notes_in_turn tell depth before (note.Asked k ∷ ns) = behind (tell before (key_seen k)) (notes_in_turn tell depth (tell before (key_seen k)).followed ns)
notes_in_turn tell depth before (note.Read r ∷ ns) = over (of_reading depth r) (notes_in_turn tell depth before ns)

-- without a value there a hundred keys stand above it
abbrev pub reason_at : Option Value → Reason
reason_at None = beyond
reason_at (Some v) = at_hand

-- W says the value of a key below so many others, and N what the formula of one needs
module _ (src : Sources) (W : ℕ → Key → Option Value) (N : ℕ → Key → List Note) where
  abbrev pub entry : ℕ → Key → Reason → Entry
  entry depth key reason = of_key depth key (W depth key) reason

  -- where no level is left
  abbrev pub told_at_end : ℕ → List Key → Key → Source → Told
  told_at_end depth before key refused = alone (entry depth key unfit) before
  told_at_end depth before key (known v) = alone (entry depth key (reason_at (W depth key))) before
  told_at_end depth before key (formula d) = alone (entry depth key (if has before key then above else beyond)) before

  -- where some are, and `tell` explains what the formula asks for
  abbrev pub told_from : (List Key → Key → Told) → ℕ → List Key → Key → Source → Told
  told_from tell depth before key refused = alone (entry depth key unfit) before
  told_from tell depth before key (known v) = alone (entry depth key at_hand) before
  told_from tell depth before key (formula d) =
      if has before key
      then alone (entry depth key above) before
      else over (entry depth key worked) (notes_in_turn tell (suc depth) (before ++ key ∷ []) (N depth key))

  -- a key below so many others, with so many levels, where these formulas were followed before
  unfoldable pub explained : ℕ → ℕ → List Key → Key → Told
  explained zero depth before key = told_at_end depth before key (src key)
  explained (suc levels) depth before key = told_from (explained levels (suc depth)) depth before key (src key)
