-- A fact of what an operation gives, where it gives something.
use Rattle.std.proofs.Common.{Result, Ok, Err, Option, Some, None}
use Rattle.std.specs.Prelude.{IfOk, IfSome}

pub lifted : {X E : Type 0} (P Q : X → Type 0) → ((x : X) → P x → Q x) → (r : Result (Option X) E) → IfOk r (λ o. IfSome o P) → IfOk r (λ o. IfSome o Q)
lifted P Q f (Ok (Some x)) h = f x h
lifted P Q f (Ok None) h = h
lifted P Q f (Err e) h = h

pub raised : {X : Type 0} (P Q : X → Type 0) → ((x : X) → P x → Q x) → (o : Option X) → IfSome o P → IfSome o Q
raised P Q f (Some x) h = f x h
raised P Q f None h = h
