-- What functions tell of a run file, where memory lasts.
use Rattle.std.specs.Prelude.{◌≡◌, ◌≢◌, Result, Ok, Err}
use Rattle.fisca_columns.specs.declared.fault.RunFileFault.{RunFileFault}
use Rattle.fisca_columns.specs.declared.fault.RunFileKind.TheVariants.{Memory}

-- what this outcome says, seen in this way, or its fault; or else memory ran out, which is told of line 0
abbrev pub Tells : {X Y : Type 0} → (X → Y) → Result Y RunFileFault → Result X RunFileFault → Type 0
Tells view outcome (Ok x) = outcome ≡ Ok (view x)
Tells view outcome (Err f) = (f.kind ≢ Memory → outcome ≡ Err f) × (f.kind ≡ Memory → f.line ≡ 0)

-- what a function that takes no memory tells
abbrev pub Answers : {X Y : Type 0} → (X → Y) → Result Y RunFileFault → Result X RunFileFault → Type 0
Answers view outcome (Ok x) = outcome ≡ Ok (view x)
Answers view outcome (Err f) = (outcome ≡ Err f) × (f.kind ≢ Memory)
