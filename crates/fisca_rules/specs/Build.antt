-- What the modules of a rule set declare, or their first fault: names first, then attributes.
use Rattle.std.specs.Prelude.{ℕ, List, [], ◌∷◌, ◌++◌, Bool, false, Result, Ok}
use Rattle.std.specs.List.{list_any}
use Rattle.fisca_ast.specs.Tree.{Tree, name}
use Rattle.fisca_num.specs.Results.{and_then}
use Rattle.fisca_ast.specs.Modules.{Item, attribute, formula, Statement, entity, entities, choices, variable}
use Rattle.fisca_symbols.specs.declared.choices.Choices.{Choices}
use Rattle.fisca_symbols.specs.declared.entity.Entity.{Entity}
use Rattle.fisca_symbols.specs.declared.variable.Variable.{Variable}
use Rattle.fisca_rules.specs.declared.build_fault.BuildFault.{BuildFault}
use Rattle.fisca_rules.specs.FirstPass.{told_at}
use Rattle.fisca_attributes.specs.Values.{is_among}
use Rattle.fisca_declarations.specs.declared.declared.Declared.{Declared}
use Rattle.fisca_declarations.specs.VariableForms.{Written}
use Rattle.fisca_declarations.specs.Steps.VariableForms.{item_fits, said, type_lines}
use Rattle.fisca_declarations.specs.declared.attributes.Attributes.{Attributes}
use Rattle.fisca_declarations.specs.declared.types.TypeLines.{TypeLines}

-- What is declared anywhere

abbrev pub constant_of : Statement → List (List ℕ)
constant_of (entity a) = a.name ∷ []
constant_of (entities a) = []
constant_of (choices line n ms) = []
constant_of (variable line n xs) = []

-- Second pass: attributes and entities, from top to bottom

-- what was declared so far
pub record Found : Type 0 where
  pub entities : List Entity
  pub variables : List Variable
  pub declarations : List Written

abbrev pub has_person : List Entity → Bool
has_person es = list_any (λ e. e.is_person) es

abbrev pub names_known : Declared → Tree → Bool
names_known c (name t) = is_among c.constants t
names_known c e = false

abbrev pub line_of_item : Item → ℕ
line_of_item (attribute a) = a.line
line_of_item (formula f) = f.line

abbrev pub items_fit : Declared → ℕ → TypeLines → List Item → List Item → Result (Unit {0}) BuildFault
items_fit c place k earlier [] = Ok tt
items_fit c place k earlier (x ∷ xs) =
    and_then (told_at place (line_of_item x) (item_fits c k earlier x)) (λ _. items_fit c place k (earlier ++ x ∷ []) xs)

-- what the lines of a variable say, where each is right
abbrev pub items_said : Declared → ℕ → List Item → Result (TypeLines × Attributes) BuildFault
items_said c place xs =
    and_then (items_fit c place (type_lines c xs) [] xs) (λ _. Ok (type_lines c xs, said c (type_lines c xs) xs))

abbrev pub with_variable : Found → Variable × Written → Found
with_variable f p = record f { variables = f.variables ++ p.0 ∷ []; declarations = f.declarations ++ p.1 ∷ [] }

abbrev pub behind_variable : Found → Result (Variable × Written) BuildFault → Result Found BuildFault
behind_variable f r = and_then r (λ p. Ok (with_variable f p))

-- Both passes

pub record Whole : Type 0 where
  pub entities : List Entity
  pub enums : List Choices
  pub variables : List Variable
  pub declarations : List Written

abbrev pub none_yet : Found
none_yet = record { entities = []; variables = []; declarations = [] }
