-- The lines of a variable, each beside what came before it.
use Rattle.std.specs.Prelude.{ℕ, List, [], ◌∷◌, if◌then◌else◌, Option, Some, None, Result, Ok, codes}
use Rattle.fisca_num.specs.Results.{and_then}
use Rattle.fisca_time.specs.Instant.{CivilDate}
use Rattle.fisca_ast.specs.declared.fault.FormulaKind.{FormulaKind}
use Rattle.fisca_ast.specs.Tree.{Tree}
use Rattle.fisca_ast.specs.Words.{is}
use Rattle.fisca_attributes.specs.Steps.Values.{text_value, instant_value, references_value}
use Rattle.fisca_declarations.specs.declared.before.Before.{Before as Held}
use Rattle.fisca_declarations.specs.declared.before.Days.{Days}
use Rattle.fisca_declarations.specs.declared.declared.Declared.{Declared}
use Rattle.fisca_declarations.specs.declared.attributes.Attributes.{Attributes}
use Rattle.fisca_declarations.specs.declared.types.TypeLines.{TypeLines}
use Rattle.fisca_declarations.specs.VariableForms.{passed_over}
use Rattle.fisca_declarations.specs.Steps.VariableForms.{default_said, entity_value, enum_fits, set_input_said}

-- the names of the attributes so far, and the days on which formulas start
pub record Before : Type 0 where
  pub names : List (List ℕ)
  pub days : List CivilDate

abbrev pub days_of : Option Days → List CivilDate
days_of None = []
days_of (Some ds) = ds.first ∷ ds.more.keys

abbrev pub before : Held → Before
before b = record { names = b.names.items; days = days_of b.days }

abbrev pub nothing_before : Before
nothing_before = record { names = []; days = [] }

abbrev pub nothing_said : Attributes
nothing_said = record { entity = None; default_value = None; end = None; set_input = None; label = None; documentation = None; unit = None; reference = None }

-- what is said with one that is told of a variable
unfoldable pub with_told : Attributes → List ℕ → Tree → Result Attributes FormulaKind
with_told s t e =
    if is t (codes "label") then and_then (text_value e) (λ v. Ok (record s { label = Some v }))
    else (if is t (codes "documentation") then and_then (text_value e) (λ v. Ok (record s { documentation = Some v }))
    else (if is t (codes "unit") then and_then (text_value e) (λ v. Ok (record s { unit = Some v }))
    else (if is t (codes "reference") then and_then (references_value e) (λ v. Ok (record s { reference = Some v })) else and_then (passed_over t e) (λ _. Ok s))))

-- what is said with an attribute more; those of the type say what all lines say of it
unfoldable pub with_attribute : Declared → TypeLines → Attributes → List ℕ → Tree → Result Attributes FormulaKind
with_attribute c k s t e =
    if is t (codes "value_type") then and_then k.value_type (λ _. Ok s)
    else (if is t (codes "entity") then and_then (entity_value c e) (λ v. Ok (record s { entity = Some v }))
    else (if is t (codes "definition_period") then and_then k.definition_period (λ _. Ok s)
    else (if is t (codes "default_value") then and_then (default_said c k e) (λ v. Ok (record s { default_value = v }))
    else (if is t (codes "possible_values") then and_then (enum_fits k k.possible_values) (λ _. Ok s)
    else (if is t (codes "end") then and_then (instant_value e) (λ v. Ok (record s { end = Some v }))
    else (if is t (codes "set_input") then and_then (set_input_said k e) (λ v. Ok (record s { set_input = Some v })) else with_told s t e))))))
