-- What a module declares.
use Rattle.std.specs.Prelude.{ℕ, List}
use Rattle.fisca_time.specs.Instant.{CivilDate}
use Rattle.fisca_ast.specs.Tree.{Tree}
use Rattle.fisca_ast.specs.declared.module.Member.{Member}
use Rattle.fisca_ast.specs.declared.module.Signature.{Signature}

-- a name and a value beside it, and the line
pub record Assigned : Type 0 where
  pub line : ℕ
  pub name : List ℕ
  pub value : Tree

-- what a formula returns
pub record Answer : Type 0 where
  pub line : ℕ
  pub value : Tree

-- a line in the body of a formula
pub data Step : Type 0 where
  local : Assigned → Step
  result : Answer → Step

pub record Formula : Type 0 where
  pub line : ℕ
  pub start : CivilDate
  pub signature : Signature
  pub locals : List Assigned
  pub returned : Answer

-- what a variable has
pub data Item : Type 0 where
  attribute : Assigned → Item
  formula : Formula → Item

-- An entity, the list of entities, an Enum with its members, and a variable with what it has; the line and the name of a class come first.
pub data Statement : Type 0 where
  entity : Assigned → Statement
  entities : Assigned → Statement
  choices : ℕ → List ℕ → List Member → Statement
  variable : ℕ → List ℕ → List Item → Statement
