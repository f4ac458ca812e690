-- What functions tell of a file of tests, where memory lasts.
use Rattle.std.specs.Prelude.{◌≡◌, ◌≢◌, Result, Ok, Err}
use Rattle.fisca_test_file.specs.declared.fault.TestFault.{TestFault}
use Rattle.fisca_test_file.specs.declared.fault.TestKind.TheVariants.{Memory}

-- the fault of this outcome; or else memory ran out, which is told of line 0
abbrev pub Fails : {Y : Type 0} → Result Y TestFault → TestFault → Type 0
Fails outcome f = (f.kind ≢ Memory → outcome ≡ Err f) × (f.kind ≡ Memory → f.line ≡ 0)

-- what this outcome says, seen in this way, or its fault
abbrev pub Tells : {X Y : Type 0} → (X → Y) → Result Y TestFault → Result X TestFault → Type 0
Tells view outcome (Ok x) = outcome ≡ Ok (view x)
Tells view outcome (Err f) = Fails outcome f

-- what a function that takes no memory tells
abbrev pub Answers : {X Y : Type 0} → (X → Y) → Result Y TestFault → Result X TestFault → Type 0
Answers view outcome (Ok x) = outcome ≡ Ok (view x)
Answers view outcome (Err f) = (outcome ≡ Err f) × (f.kind ≢ Memory)
