-- What the plan of a key says.
use Rattle.std.specs.Prelude.{◌≡◌, ℕ, Bool, true, List, slice_get, Option, Some, None}
use Rattle.std.specs.Option.{is_some}
use Rattle.fisca_model.specs.Seen.{key_seen}
use Rattle.fisca_machine.specs.Plans.{plays}
use Rattle.fisca_machine.specs.declared.plan.Plan.{Plan}
use Rattle.fisca_model.specs.Values.{Key}
use Rattle.fisca_model.specs.Groups.{Groups}
use Rattle.fisca_rules.specs.Rules.{Rules}
use Rattle.fisca_typing.specs.Formulas.{Formula}
use Rattle.fisca_symbols.specs.declared.variable.Variable.{Variable}
use Rattle.fisca_simulation.specs.Simulations.{formula_of, variable_of, worked_out}
use Rattle.fisca_evaluator.specs.declared.plans.Planned.{Planned}

abbrev pub formula_by : Rules → List Bool → Key → Option Variable → Option Formula
formula_by r neutral k None = None
formula_by r neutral k (Some v) = formula_of r neutral v k

-- a formula works out the key's value where it has no input
abbrev pub IsComputed : Rules → List Bool → Key → Type 0
IsComputed r neutral k = is_some (formula_by r neutral k (variable_of r k)) ≡ true

-- the plan says what the key's formula gives, whoever belongs to which group
abbrev pub Says : Rules → List Bool → Key → Plan → Type 0
Says r neutral k p = (v : Variable) (f : Formula) (g : Groups) → variable_of r k ≡ Some v → formula_of r neutral v k ≡ Some f → worked_out r g v k f ≡ plays p

abbrev pub IsPlanOf : Rules → List Bool → Key → Plan → Type 0
IsPlanOf r neutral k p = IsComputed r neutral k × Says r neutral k p

-- each plan that is kept is that of its key
abbrev pub ArePlans : Rules → List Bool → List Planned → Type 0
ArePlans r neutral es = (place : ℕ) (e : Planned) (p : Plan) → slice_get es place ≡ Some e → e.plan ≡ Some p → IsPlanOf r neutral (key_seen e.key) p
