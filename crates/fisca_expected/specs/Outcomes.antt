-- What functions tell of expected values, where memory lasts.
use Rattle.std.specs.Prelude.{◌≡◌, ◌≢◌, Result, Ok, Err}
use Rattle.fisca_expected.specs.declared.fault.OutputFault.{OutputFault}
use Rattle.fisca_expected.specs.declared.fault.OutputFault.TheVariants.{Memory}

-- what this outcome says, seen in this way, or its fault; or else memory ran out
abbrev pub Tells : {X Y : Type 0} → (X → Y) → Result Y OutputFault → Result X OutputFault → Type 0
Tells view outcome (Ok x) = outcome ≡ Ok (view x)
Tells view outcome (Err f) = f ≢ Memory → outcome ≡ Err f

-- what a function that takes no memory tells
abbrev pub Answers : {X Y : Type 0} → (X → Y) → Result Y OutputFault → Result X OutputFault → Type 0
Answers view outcome (Ok x) = outcome ≡ Ok (view x)
Answers view outcome (Err f) = (outcome ≡ Err f) × (f ≢ Memory)
