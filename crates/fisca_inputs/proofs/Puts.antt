-- One entry more in a table.
use Rattle.std.proofs.Common.{◌≡◌, ℕ, ◌<◌, [], ◌∷◌, ◌++◌, length, sym, ap}
use Rattle.std.specs.Prelude.{Ok}
use Rattle.std.proofs.lemmas.Bool.{lt-ltb}
use Rattle.fisca_inputs.specs.Entries.{Entries, limit}
use Rattle.fisca_inputs.specs.Steps.Entries.{put}
use Rattle.fisca_model.specs.declared.key.Key.{Key}
use Rattle.fisca_model.specs.declared.value.Value.{Value}

pub put_is : (line : ℕ) (k : Key) (x : Value) (es new : Entries) → length es < limit → new ≡ es ++ (k, x) ∷ [] → put line k x es ≡ Ok new
put_is line k x es new room e = rw (lt-ltb (length es) limit room) (ap Ok (sym e))
