-- A parse by a command that is the program's.
use Rattle.std.proofs.Common.{◌≡◌, ◌∙◌, ◌∷◌, true, inl, inr, List, [], String, Global, map, string_bytes, Some, None, Result, refl, sym, subst, ap, ap₂}
use Rattle.clap.specs.Kinds.{FailsBy, HasKind, Kinds, or_else}
use Rattle.clap.specs.Walk.{Row, Text}
use Rattle.clap.specs.Simple.{App, subcommand_of}
use Rattle.clap.specs.declared.error.Error.{Error}
use Rattle.clap.specs.Faults.{fault_of, is_simple_and_free}
use Rattle.fisca_command_line.specs.CommandLine.{fisca_app}
use Rattle.fisca_command_line.specs.Misuse.{misuse_kinds, misuse_of, misuse_under, usage_fault}

-- what is known of its fault
pub fault_known : (P : Kinds → Type 0) (app : App) (words : List Text) → app ≡ fisca_app → (is_simple_and_free app ≡ true → P (fault_of app words)) → P (fault_of fisca_app words)
fault_known P app words is known = subst (λ (a : App). (is_simple_and_free a ≡ true → P (fault_of a words)) → P (fault_of fisca_app words)) (sym is) (λ h. h refl) known

pub no_fault : (app : App) (words : List Text) → app ≡ fisca_app → (is_simple_and_free app ≡ true → fault_of app words ≡ []) → fault_of fisca_app words ≡ []
no_fault app words is none = fault_known (λ kinds. kinds ≡ []) app words is none

-- Misuses

-- the words as texts
abbrev pub words_of : List (String Global) → List Text
words_of = map (λ word. string_bytes word)

still_told : (one other : Kinds) (e : Error) → HasKind one e → HasKind (or_else one other) e
still_told [] other e told = elim told [
  | inl memory ↦ inl memory
  | inr among ↦ absurd among
]
still_told (kind ∷ kinds) other e told = told

-- an error by `clap` is one of the program
pub told_by_clap : (words : List Text) (e : Error) → HasKind (fault_of fisca_app words) e → HasKind (usage_fault words) e
told_by_clap words e told = still_told (fault_of fisca_app words) (misuse_kinds (misuse_of (subcommand_of fisca_app words))) e told

-- words that `clap` takes have the misuse of their command's options
only_misuse : (words : List Text) (name other : Text) (rows : List Row) → fault_of fisca_app words ≡ [] → subcommand_of fisca_app words ≡ Some (name, rows) → name ≡ other → usage_fault words ≡ misuse_kinds (misuse_under other rows)
only_misuse words name other rows none is same = ap₂ or_else none (ap (λ command. misuse_kinds (misuse_of command)) is ∙ ap (λ n. misuse_kinds (misuse_under n rows)) same)

-- where these have none, the words have no fault
pub unused : (words : List Text) (name other : Text) (rows : List Row) → fault_of fisca_app words ≡ [] → subcommand_of fisca_app words ≡ Some (name, rows) → name ≡ other → misuse_under other rows ≡ None → usage_fault words ≡ []
unused words name other rows none is same free = only_misuse words name other rows none is same ∙ ap misuse_kinds free

pub used : {T : Type 0} (words : List Text) (name other : Text) (rows : List Row) (r : Result T Error) → fault_of fisca_app words ≡ [] → subcommand_of fisca_app words ≡ Some (name, rows) → name ≡ other
    → FailsBy (misuse_kinds (misuse_under other rows)) r → FailsBy (usage_fault words) r
used words name other rows r none is same fails = subst (λ kinds. FailsBy kinds r) (sym (only_misuse words name other rows none is same)) fails
