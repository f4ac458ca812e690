-- What reading modules one after another finds.
use Rattle.std.proofs.Common.{◌≡◌, inl, sym, subst, refl}
use Rattle.std.specs.Prelude.{Result, Ok, Err}
use Rattle.fisca_rule_files.specs.Modules.{FileFault, IsRefusalOf}
use Rattle.fisca_rule_files.specs.declared.refusal.Refusal.{Refusal}
use Rattle.fisca_rule_files.specs.declared.refusal.Refusal.TheVariants.{Memory}

-- want of memory may be told of any
pub memory_told : {X : Type 0} (o : Result X FileFault) → IsRefusalOf o Memory
memory_told (Ok x) = refl
memory_told (Err fault) = inl refl

-- the fault of a module is that of all from it on
pub first_told : {X Y : Type 0} (one : Result X FileFault) (whole : Result Y FileFault) (r : Refusal) → IsRefusalOf one r → ((fault : FileFault) → one ≡ Err fault → whole ≡ Err fault) → IsRefusalOf whole r
first_told (Ok x) whole r is rest = subst (λ s. IsRefusalOf whole s) (sym is) (memory_told whole)
first_told (Err fault) whole r is rest = subst (λ o. IsRefusalOf o r) (sym (rest fault refl)) is
