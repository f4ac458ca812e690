-- What a reader answers.
use Rattle.std.specs.Prelude.{◌≡◌, ◌≢◌, ◌≤◌, ℕ, List, Option, Some, None, Result, Ok, Err}
use Rattle.fisca_yaml.specs.declared.fault.YamlFault.{YamlFault}
use Rattle.fisca_yaml.specs.declared.fault.YamlKind.TheVariants.{Memory, TooLong}

-- What was read, seen by view, is this value. A refusal for another cause than memory comes only where there is none.
abbrev pub Gives : {X Y : Type 0} → (X → Y) → Result X YamlFault → Option Y → Type 0
Gives view (Ok x) o = o ≡ Some (view x)
Gives view (Err f) o = f.kind ≢ Memory → o ≡ None

-- The same, with the text that is left.
abbrev pub GivesAnd : {X Y : Type 0} → (X → Y) → Result X YamlFault → List ℕ → Option (Y × List ℕ) → Type 0
GivesAnd view (Ok x) rest o = o ≡ Some (view x, rest)
GivesAnd view (Err f) rest o = f.kind ≢ Memory → o ≡ None

-- A fault of a text that is not too long is told of a line up to this one.
abbrev pub IsTold : ℕ → YamlFault → Type 0
IsTold last f = (f.line ≤ last) × (f.kind ≢ TooLong)
