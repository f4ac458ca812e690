-- What is kept of children.
use Rattle.std.proofs.Common.{◌≡◌, ◌∙◌, ap, List, ℕ, Bool, true, false, if◌then◌else◌, Option, Some, Result, Ok, Err, refl}
use Rattle.std.specs.Prelude.{IfSome}
use Rattle.std.specs.Str.{bytes_eq}
use Rattle.std.specs.Cmp.Lexicographic.{bytes_decides}
use Rattle.fisca_ast.specs.declared.fault.FormulaKind.{FormulaKind}
use Rattle.fisca_check_calls.specs.declared.parameters.Children.{Children}
use Rattle.fisca_model.specs.Tables.{Tables, members_at}
use Rattle.fisca_num.specs.Results.{and_then}
use Rattle.fisca_typing.specs.declared.kinds.Level.{Level}
use Rattle.fisca_typing.specs.Parameters.{enum_by, subscripted}
use Rattle.fisca_typing.specs.Things.{Chosen, Typed}
use Rattle.fisca_typing.specs.Types.{higher}
use Rattle.fisca_check_calls.specs.Parameters.{alike_below, chosen_by}
use Rattle.fisca_check_calls.proofs.OneKind.{by_fault}
use Rattle.fisca_check.specs.Rows.{kept, looked}

right_by : (c : Tables) (k ks : List ℕ) (found : Result Children FormulaKind) (old : Option (Result Children FormulaKind)) (b : Bool) → bytes_eq k ks ≡ b →
    kept found ≡ looked c k → IfSome old (λ f. kept f ≡ looked c ks) → IfSome (if b then Some found else old) (λ f. kept f ≡ looked c ks)
right_by c k ks found old true e h g = h ∙ ap (looked c) ((bytes_decides k ks).0 e)
right_by c k ks found old false e h g = g

pub right_more : (c : Tables) (k ks : List ℕ) (found : Result Children FormulaKind) (old new : Option (Result Children FormulaKind)) →
    new ≡ (if bytes_eq k ks then Some found else old) →
    kept found ≡ looked c k → IfSome old (λ f. kept f ≡ looked c ks) → IfSome new (λ f. kept f ≡ looked c ks)
right_more c k ks found old new e h g = rw e (right_by c k ks found old (bytes_eq k ks) refl h g)

-- a fault of the children is that of the brackets
pub subscript_fault : (c : Tables) (n : Chosen) (i : Typed) (e : ℕ) (l : Level) (k : FormulaKind) →
    enum_by i.value_type ≡ Ok e → higher n.level i.level ≡ Ok l → alike_below c.nodes n.places (members_at c e) ≡ Err k → subscripted c n i ≡ Err k
subscript_fault c n i e l k f g h =
    ap (λ o. and_then o (λ d. and_then (higher n.level i.level) (λ m. chosen_by c.nodes n m i.node (members_at c d)))) f
    ∙ ap (λ o. and_then o (λ m. chosen_by c.nodes n m i.node (members_at c e))) g
    ∙ by_fault c.nodes n l i.node (members_at c e) k h
