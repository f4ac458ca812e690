-- What functions tell of members, where memory lasts.
use Rattle.std.specs.Prelude.{◌≡◌, ◌≢◌, Result, Ok, Err}
use Rattle.fisca_members.specs.declared.fault.MembersKind.TheVariants.{Memory}
use Rattle.fisca_members.specs.declared.fault.MembersFault.{MembersFault}

-- what this outcome says, seen in this way, or its fault; or else memory ran out, which is told of no line
abbrev pub Tells : {X Y : Type 0} → (X → Y) → Result Y MembersFault → Result X MembersFault → Type 0
Tells view outcome (Ok x) = outcome ≡ Ok (view x)
Tells view outcome (Err f) = (f.kind ≢ Memory → outcome ≡ Err f) × (f.kind ≡ Memory → f.line ≡ 0)

-- the same of what a call leaves behind
abbrev pub Leaves : {X Y : Type 0} → Y → Result Y MembersFault → Result X MembersFault → Type 0
Leaves new = Tells (λ x. new)
