-- Keys that no formula works out are told alone.
use Rattle.std.proofs.Common.{◌≡◌, ℕ, List, Option, Bor, refl}
use Rattle.fisca_check.specs.declared.formula.TypedFormula.{TypedFormula}
use Rattle.fisca_model.specs.Seen.{value_seen}
use Rattle.fisca_model.specs.Values.{Key, Value}
use Rattle.fisca_simulation.specs.Simulations.{Simulation, sources}
use Rattle.fisca_symbols.specs.declared.variable.Variable.{Variable}
use Rattle.fisca_simulation.specs.declared.note.Note.{Note}
use Rattle.fisca_explain.specs.Origins.{IsOrigin}
use Rattle.fisca_explain.specs.declared.origin.Origin.{Origin}
use Rattle.fisca_explain.specs.declared.origin.Origin.TheVariants as origin
use Rattle.fisca_explain.proofs.Explaining.{IsPlain, plain_known, plain_refused}

module _ (m : Simulation) (W : ℕ → Key → Option Value) (N : ℕ → Key → List Note) (levels depth : ℕ) (k : Key) where
  pub plain_origin : (o : Origin) → IsOrigin m k o → ((v : Bor Variable) (f : Bor TypedFormula) → o ≡ origin.Formula v f → ⊥) → IsPlain (sources m) W N levels depth k
  plain_origin origin.Unfit is never = plain_refused (sources m) W N depth k levels is
  plain_origin origin.Input is never = plain_known (sources m) W N depth k levels (value_seen is.0) is.2
  plain_origin origin.Default is never = plain_known (sources m) W N depth k levels (value_seen is.1.1) is.1.4
  plain_origin origin.Neutral is never = plain_known (sources m) W N depth k levels (value_seen is.1.1) is.1.4
  plain_origin (origin.Formula v f) is never = absurd (never v f refl)
