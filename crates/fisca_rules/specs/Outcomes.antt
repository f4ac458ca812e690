-- What functions tell of a rule set, where memory lasts.
use Rattle.std.specs.Prelude.{◌≡◌, ◌≢◌, Result, Ok, Err}
use Rattle.fisca_ast.specs.declared.fault.FormulaKind.TheVariants.{Memory}
use Rattle.fisca_rules.specs.declared.build_fault.BuildFault.{BuildFault}

-- what this outcome says, seen in this way, or its fault; or else memory ran out
abbrev pub Tells : {X Y : Type 0} → (X → Y) → Result Y BuildFault → Result X BuildFault → Type 0
Tells view outcome (Ok x) = outcome ≡ Ok (view x)
Tells view outcome (Err f) = f.kind ≢ Memory → outcome ≡ Err f
