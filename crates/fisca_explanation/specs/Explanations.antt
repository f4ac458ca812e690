-- How the value of a key came about: the key, and below it what its formula asked for, key by key, each with what that asked for below it. Each formula is
-- followed once: a key that was asked for before is named alone. Where a value is none, what was asked for last leads to the fault, and nothing follows.
use Rattle.std.specs.Prelude.{ℕ, zero, suc, List, [], ◌∷◌, ◌++◌, if◌then◌else◌, Result}
use Rattle.fisca_model.specs.Causes.{Fault}
use Rattle.fisca_model.specs.Values.{Value, Key}
use Rattle.fisca_key_semantics.specs.Answers.{Source, Sources, Oracle, refused, known, formula, value_within, most_keys}
use Rattle.fisca_key_semantics.specs.Chains.{asked, on_value}
use Rattle.fisca_key_semantics.specs.Keys.{has}
use Rattle.fisca_key_semantics.specs.Stacks.{answer_below}

-- what a value comes from
pub data Reason : Type 0 where
  -- its period does not fit
  unfit : Reason
  -- it is an input or a default
  at_hand : Reason
  -- as many keys as may ask for one another stand above it
  beyond : Reason
  -- its formula, whose questions stand below
  worked : Reason
  -- its formula, whose questions stand above
  above : Reason

-- a key below those that asked for it, the first of all at the head, with its answer there
pub record Line : Type 0 where
  pub path : List Key
  pub key : Key
  pub answer : Result Value Fault
  pub reason : Reason

abbrev pub line_at : Sources → List Key → Key → Reason → Line
line_at src path key reason = record { path = path; key = key; answer = answer_below src path key; reason = reason }

-- lines, and the keys whose formulas were followed in them and before them
pub record Told : Type 0 where
  pub lines : List Line
  pub followed : List Key

abbrev pub alone : Line → List Key → Told
alone line before = record { lines = line ∷ []; followed = before }

abbrev pub over : Line → Told → Told
over line below = record { lines = line ∷ below.lines; followed = below.followed }

abbrev pub behind : Told → Told → Told
behind first rest = record { lines = first.lines ++ rest.lines; followed = rest.followed }

-- one key after another, each beside what was followed before
abbrev pub in_turn : (List Key → Key → Told) → List Key → List Key → Told
in_turn tell before [] = record { lines = []; followed = before }
in_turn tell before (k ∷ ks) = behind (tell before k) (in_turn tell (tell before k).followed ks)

-- without fuel for the key
abbrev pub told_at_once : Sources → List Key → List Key → Key → Source → Told
told_at_once src path before key refused = alone (line_at src path key unfit) before
told_at_once src path before key (known v) = alone (line_at src path key beyond) before
told_at_once src path before key (formula d) = alone (line_at src path key (if has before key then above else beyond)) before

-- with fuel for the key, where W answers and `tell` explains what it asks for
abbrev pub told_from : Sources → Oracle → (List Key → Key → Told) → List Key → List Key → Key → Source → Told
told_from src W tell path before key refused = alone (line_at src path key unfit) before
told_from src W tell path before key (known v) = alone (line_at src path key at_hand) before
told_from src W tell path before key (formula d) =
    if has before key
    then alone (line_at src path key above) before
    else over (line_at src path key worked) (in_turn tell (before ++ key ∷ []) (asked W d))

-- of a key below this path, within this fuel, where these formulas were followed before
unfoldable pub explanation_within : Sources → ℕ → List Key → List Key → Key → Told
explanation_within src zero path before key = told_at_once src path before key (src key)
explanation_within src (suc n) path before key = told_from src (value_within src n) (explanation_within src n (path ++ key ∷ [])) path before key (src key)

-- the lines that explain a key
abbrev pub explanation : Sources → Key → List Line
explanation src key = (explanation_within src most_keys [] [] key).lines

-- of some keys all up to the first that has no value
abbrev pub up_to_fault : Oracle → List Key → List Key
up_to_fault W [] = []
up_to_fault W (k ∷ ks) = k ∷ on_value (W k) (λ v. up_to_fault W ks)

-- the lines that explain some keys, one after another
abbrev pub explanations : Sources → List Key → List Line
explanations src keys = (in_turn (explanation_within src most_keys []) [] (up_to_fault (value_within src most_keys) keys)).lines
