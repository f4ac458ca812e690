-- The steps of code behind `Build`:
-- What the modules of a rule set declare, or their first fault: names first, then attributes.
use Rattle.std.specs.Prelude.{ℕ, List, [], ◌∷◌, ◌++◌, length, Bool, true, false, ◌==◌, ◌||◌, nat_lt, if◌then◌else◌, Result, Ok}
use Rattle.fisca_ast.specs.Steps.Groups.{bare}
use Rattle.fisca_ast.specs.Tree.{Tree, Argument, bracketed, positional, keyword, entry}
use Rattle.fisca_num.specs.Results.{and_then}
use Rattle.fisca_ast.specs.declared.module.Member.{Member}
use Rattle.fisca_ast.specs.Modules.{Assigned, Item, Statement, entity, entities, choices, variable}
use Rattle.fisca_ast.specs.declared.fault.FormulaKind.{FormulaKind}
use Rattle.fisca_ast.specs.declared.fault.FormulaKind.TheVariants as kind
use Rattle.fisca_ast.specs.Steps.Contents.{content}
use Rattle.fisca_symbols.specs.declared.choices.Choices.{Choices}
use Rattle.fisca_symbols.specs.declared.entity.Entity.{Entity}
use Rattle.fisca_symbols.specs.declared.variable.Variable.{Variable}
use Rattle.fisca_rules.specs.declared.build_fault.BuildFault.{BuildFault}
use Rattle.fisca_rules.specs.Clashes.{is_order}
use Rattle.fisca_rules.specs.FirstPass.{Placed, placed_from, fault_at, told_at, names_from}
use Rattle.fisca_attributes.specs.Steps.EntityForms.{entity_of}
use Rattle.fisca_attributes.specs.Values.{bad_attribute, items}
use Rattle.fisca_declarations.specs.declared.declared.Declared.{Declared}
use Rattle.fisca_declarations.specs.VariableForms.{Written}
use Rattle.fisca_declarations.specs.Steps.VariableForms.{unknown_name, variable_of}
use Rattle.fisca_rules.specs.Build.{constant_of, Found, has_person, names_known, items_said, behind_variable, Whole, none_yet}

-- What is declared anywhere

abbrev pub members_of : List Member → List (List ℕ × List ℕ)
members_of [] = []
members_of (m ∷ ms) = if is_order m then members_of ms else (m.name, content m.text) ∷ members_of ms

abbrev pub constants_in : List Placed → List (List ℕ)
constants_in [] = []
constants_in (p ∷ ps) = constant_of p.statement ++ constants_in ps

abbrev pub enum_of : Statement → List Choices
enum_of (entity a) = []
enum_of (entities a) = []
enum_of (choices line n ms) = record { name = n; members = members_of ms } ∷ []
enum_of (variable line n xs) = []

abbrev pub enums_in : List Placed → List Choices
enums_in [] = []
enums_in (p ∷ ps) = enum_of p.statement ++ enums_in ps

abbrev pub declared_in : List Placed → Declared
declared_in ps = record { constants = constants_in ps; enums = enums_in ps }

-- Second pass: attributes and entities, from top to bottom

-- just one entity is the persons
abbrev pub with_entity : Found → Entity → Result Found FormulaKind
with_entity f e = if and_both e.is_person (has_person f.entities) then bad_attribute else Ok (record f { entities = f.entities ++ e ∷ [] }) where
  and_both : Bool → Bool → Bool
  and_both true b = b
  and_both false b = false

-- a constant of an entity; parentheses group alone, also around the list
abbrev pub is_known : Declared → Argument → Bool
is_known c (positional e) = names_known c (bare e)
is_known c (keyword k e) = false
is_known c (entry k e) = false

abbrev pub all_known : Declared → List Argument → Bool
all_known c [] = true
all_known c (a ∷ more) = if is_known c a then all_known c more else false

abbrev pub listed_within : Tree → List Argument
listed_within (bracketed b xs) = items xs
listed_within e = []

abbrev pub listed_in : Tree → List Argument
listed_in e = listed_within (bare e)

-- `entities = [NAME, ..]`
abbrev pub entities_fit : Declared → Assigned → Result (Unit {0}) FormulaKind
entities_fit c a = if all_known c (listed_in a.value) then Ok tt else unknown_name

-- from 1 to 1,000 members
abbrev pub members_fit : List Member → Result (Unit {0}) FormulaKind
members_fit ms = if (length (members_of ms) == 0) || nat_lt 1000 (length (members_of ms)) then bad_attribute else Ok tt

-- a variable and its declaration: its lines from top to bottom, and then what is missing
abbrev pub variable_in : Declared → ℕ → ℕ → List ℕ → List Item → Result (Variable × Written) BuildFault
variable_in c place line n xs = and_then (items_said c place xs) (λ p. told_at place line (variable_of place line n p.0 p.1 xs))

abbrev pub statement_found : Declared → Found → ℕ → Statement → Result Found BuildFault
statement_found c f place (entity a) = told_at place a.line (and_then (entity_of a) (with_entity f))
statement_found c f place (entities a) = and_then (told_at place a.line (entities_fit c a)) (λ _. Ok f)
statement_found c f place (choices line n ms) = and_then (told_at place line (members_fit ms)) (λ _. Ok f)
statement_found c f place (variable line n xs) = behind_variable f (variable_in c place line n xs)

abbrev pub found_from : Declared → Found → List Placed → Result Found BuildFault
found_from c f [] = Ok f
found_from c f (p ∷ ps) = and_then (statement_found c f p.module p.statement) (λ g. found_from c g ps)

-- The persons are there: that they are missing is known last, and told of the first line of the first module.
abbrev pub with_person : Found → Result Found BuildFault
with_person f = if has_person f.entities then Ok f else fault_at 0 1 kind.BadAttribute

-- Both passes

-- the second pass, which ends with the persons
abbrev pub second_pass : List Placed → Result Whole BuildFault
second_pass ps =
    and_then (and_then (found_from (declared_in ps) none_yet ps) with_person) (λ f.
    Ok (record { entities = f.entities; enums = enums_in ps; variables = f.variables; declarations = f.declarations }))

abbrev pub declared_by : List Placed → Result Whole BuildFault
declared_by ps = and_then (names_from [] ps) (λ _. second_pass ps)

-- what modules declare, or their first fault
unfoldable pub tables_of : List (List Statement) → Result Whole BuildFault
tables_of ms = declared_by (placed_from 0 ms)
