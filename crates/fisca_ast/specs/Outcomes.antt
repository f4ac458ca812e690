-- What functions answer, where memory lasts.
use Rattle.std.specs.Prelude.{◌≡◌, ◌≢◌, Result, Ok, Err}
use Rattle.fisca_ast.specs.declared.fault.FormulaKind.{FormulaKind}
use Rattle.fisca_ast.specs.declared.fault.FormulaKind.TheVariants.{Memory}

-- what this outcome says, seen in this way, or its refusal; or else memory ran out
abbrev pub Gives : {X Y : Type 0} → (X → Y) → Result Y FormulaKind → Result X FormulaKind → Type 0
Gives view outcome (Ok x) = outcome ≡ Ok (view x)
Gives view outcome (Err k) = k ≢ Memory → outcome ≡ Err k
