-- Children of nodes by the members of Enums, which are made once.
use Rattle.std.specs.Prelude.{◌≡◌, ℕ, List, [], ◌∷◌, ◌++◌, Result, Ok, Err, IfSome}
use Rattle.std.specs.Hash as fed
use Rattle.std.specs.Str.{bytes_eq}
use Rattle.indexmap.specs.IndexMap.{IndexMap, get}
use Rattle.fisca_ast.specs.declared.fault.FormulaKind.{FormulaKind}
use Rattle.fisca_check_calls.specs.Parameters.{Alike, alike_below, children}
use Rattle.fisca_check_calls.specs.declared.parameters.Children.{Children}
use Rattle.fisca_model.specs.Tables.{Tables, members_at}
use Rattle.fisca_typing.specs.Types.{bad_type}

-- what is kept of children, or their fault
abbrev pub kept : Result Children FormulaKind → Result Alike FormulaKind
kept (Ok c) = Ok (children c)
kept (Err k) = Err k

-- the children of nodes by the members of an Enum, which stands first
abbrev pub looked : Tables → List ℕ → Result Alike FormulaKind
looked c [] = bad_type
looked c (e ∷ places) = alike_below c.nodes places (members_at c e)

-- all that is kept is what is looked for
abbrev pub AreRight : {S : Type 0} → Tables → IndexMap (List ℕ) (Result Children FormulaKind) S → Type 0
AreRight c made = (ks : List ℕ) → IfSome (get bytes_eq made ks) (λ found. kept found ≡ looked c ks)

-- what an Enum and nodes feed a hasher
abbrev pub looked_fed : List ℕ → fed.HashWrites
looked_fed [] = []
looked_fed (e ∷ places) = fed.usize e ++ fed.slice fed.usize places
