-- Outcomes that are the same.
use Rattle.std.proofs.Common.{◌≡◌, ◌∙◌, Result, Ok, Err}
use Rattle.fisca_ast.specs.Outcomes.{Gives}
use Rattle.fisca_ast.specs.declared.fault.FormulaKind.{FormulaKind}

pub gives_same : {X Y : Type 0} (view : X → Y) (o p : Result Y FormulaKind) (r : Result X FormulaKind) → Gives view o r → p ≡ o → Gives view p r
gives_same view o p (Ok x) g e = e ∙ g
gives_same view o p (Err k) g e = λ h. e ∙ g h
