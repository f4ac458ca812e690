-- The statements of a rule set, and the first pass over them: no name comes a second time.
use Rattle.std.specs.Prelude.{ℕ, suc, List, [], ◌∷◌, ◌++◌, map, Option, Some, None, Result, Ok, Err}
use Rattle.fisca_num.specs.Results.{and_then}
use Rattle.fisca_ast.specs.Modules.{Statement}
use Rattle.fisca_ast.specs.declared.fault.FormulaKind.{FormulaKind}
use Rattle.fisca_ast.specs.declared.fault.FormulaKind.TheVariants as kind
use Rattle.fisca_rules.specs.Steps.Clashes.{second_name}
use Rattle.fisca_rules.specs.declared.build_fault.BuildFault.{BuildFault}

-- the statements of a rule set, each with the place of its module
pub record Placed : Type 0 where
  pub «module» : ℕ
  pub statement : Statement

abbrev pub placed_in : ℕ → List Statement → List Placed
placed_in place ss = map (λ s. record { «module» = place; statement = s }) ss

abbrev pub placed_from : ℕ → List (List Statement) → List Placed
placed_from place [] = []
placed_from place (ss ∷ more) = placed_in place ss ++ placed_from (suc place) more

abbrev pub fault_at : {X : Type 0} → ℕ → ℕ → FormulaKind → Result X BuildFault
fault_at place line k = Err (record { «module» = place; line = line; kind = k })

-- a fault told of this line of a module
abbrev pub told_at : {X : Type 0} → ℕ → ℕ → Result X FormulaKind → Result X BuildFault
told_at place line (Ok x) = Ok x
told_at place line (Err k) = fault_at place line k

-- First pass: no name comes a second time

abbrev pub named_once : ℕ → Option ℕ → Result (Unit {0}) BuildFault
named_once place None = Ok tt
named_once place (Some line) = fault_at place line kind.DuplicateName

abbrev pub names_from : List Statement → List Placed → Result (Unit {0}) BuildFault
names_from earlier [] = Ok tt
names_from earlier (p ∷ ps) =
    and_then (named_once p.module (second_name earlier p.statement)) (λ _. names_from (earlier ++ p.statement ∷ []) ps)
