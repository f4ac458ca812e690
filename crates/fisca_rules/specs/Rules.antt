-- Rule sets: what modules declare beside parameters, with typed formulas, or the first fault: names, then attributes and entities, then formulas.
use Rattle.std.specs.Prelude.{List, [], ◌∷◌, map, Result, Ok}
use Rattle.fisca_num.specs.Results.{and_then}
use Rattle.fisca_params.specs.Tree.{TreeNode}
use Rattle.fisca_ast.specs.Modules.{Assigned}
use Rattle.fisca_time.specs.Instant.{CivilDate}
use Rattle.fisca_symbols.specs.KnownEntities.{entity}
use Rattle.fisca_symbols.specs.KnownEnums.{choices}
use Rattle.fisca_symbols.specs.KnownVariables.{variable}
use Rattle.fisca_symbols.specs.declared.choices.Choices.{Choices}
use Rattle.fisca_symbols.specs.declared.entity.Entity.{Entity}
use Rattle.fisca_symbols.specs.declared.variable.Variable.{Variable}
use Rattle.fisca_typing.specs.Formulas as typing
use Rattle.fisca_model.specs.Tables.{Tables}
use Rattle.fisca_rules.specs.Build.{Whole}
use Rattle.fisca_declarations.specs.VariableForms.{Written}

-- What formulas may name

abbrev pub known : Whole → List TreeNode → Tables
known w nodes = record { entities = map entity w.entities; enums = map choices w.enums; variables = map variable w.variables; nodes = nodes }

-- Third pass: formulas

-- a typed formula, and the day from which on it is in force
pub record DatedFormula : Type 0 where
  pub start : CivilDate
  pub formula : typing.Formula

abbrev pub assigned_of : Assigned → typing.Assigned
assigned_of a = record { name = a.name; value = a.value }

-- each of these, or the first fault
abbrev pub all_of : {X Y E : Type 0} → (X → Result Y E) → List X → Result (List Y) E
all_of make [] = Ok []
all_of make (x ∷ xs) = and_then (make x) (λ y. and_then (all_of make xs) (λ ys. Ok (y ∷ ys)))

-- All passes

-- what is declared, with the declaration of each variable, the parameters, and the typed formulas of each variable
pub record Rules : Type 0 where
  pub entities : List Entity
  pub enums : List Choices
  pub variables : List Variable
  pub declarations : List Written
  pub parameters : List TreeNode
  pub formulas : List (List DatedFormula)

-- what its formulas may name
abbrev pub known_by : Rules → Tables
known_by r = known (record { entities = r.entities; enums = r.enums; variables = r.variables; declarations = r.declarations }) r.parameters
