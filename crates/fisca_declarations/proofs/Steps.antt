-- One step after another.
use Rattle.std.proofs.Common.{◌≡◌, ◌∙◌, ap, Result, Ok, Err}
use Rattle.fisca_ast.specs.Outcomes.{Gives}
use Rattle.fisca_num.specs.Results.{and_then}
use Rattle.fisca_ast.specs.declared.fault.FormulaKind.{FormulaKind}

pub gives_same : {X Y : Type 0} (view : X → Y) (o p : Result Y FormulaKind) (r : Result X FormulaKind) → Gives view o r → p ≡ o → Gives view p r
gives_same view o p (Ok x) g e = e ∙ g
gives_same view o p (Err k) g e = λ h. e ∙ g h

-- a step that goes on
pub goes : {X Y : Type 0} (o : Result X FormulaKind) (x : X) (next : X → Result Y FormulaKind) (r : Result Y FormulaKind) → o ≡ Ok x → next x ≡ r → and_then o next ≡ r
goes o x next r e h = ap (λ p. and_then p next) e ∙ h
