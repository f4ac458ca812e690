-- Variables, as they are written.
use Rattle.std.specs.Prelude.{ℕ, List, [], map, Bool, true, false, if◌then◌else◌, Option, Some, None, Result, Ok, codes}
use Rattle.std.specs.Str.{bytes_eq}
use Rattle.fisca_ast.specs.Tree.{Tree, text}
use Rattle.fisca_ast.specs.Words.{is}
use Rattle.fisca_num.specs.Results.{and_then}
use Rattle.fisca_ast.specs.ModuleViews.{formula_view}
use Rattle.fisca_ast.specs.Modules.{Formula}
use Rattle.fisca_ast.specs.declared.fault.FormulaKind.{FormulaKind}
use Rattle.fisca_model.specs.Tables.{place_in}
use Rattle.fisca_declarations.specs.declared.declaration.Declaration.{Declaration}
use Rattle.fisca_declarations.specs.declared.declared.Declared.{Declared}
use Rattle.fisca_symbols.specs.declared.variable.Variable.{Variable}
use Rattle.fisca_attributes.specs.declared.attributes.TypeName.{TypeName}
use Rattle.fisca_attributes.specs.declared.attributes.TypeName.TheVariants as named
use Rattle.fisca_attributes.specs.Values.{bad_attribute}
use Rattle.fisca_attributes.specs.Steps.Values.{truth_value, whole_value}
use Rattle.fisca_attributes.specs.EntityForms.{mapped}

abbrev pub place_of_constant : Declared → List ℕ → Option ℕ
place_of_constant c t = place_in (λ k. bytes_eq k t) c.constants

abbrev pub place_of_enum : Declared → List ℕ → Option ℕ
place_of_enum c t = place_in (λ e. bytes_eq e.name t) c.enums

-- an unknown type allows everything
abbrev pub allows : (TypeName → Bool) → Option TypeName → Bool
allows test None = true
allows test (Some t) = test t

abbrev pub is_enum : TypeName → Bool
is_enum named.Enum = true
is_enum _ = false

abbrev pub is_float : TypeName → Bool
is_float named.Float = true
is_float _ = false

-- formulas have numbers, bools and members
abbrev pub has_formulas : TypeName → Bool
has_formulas named.Float = true
has_formulas named.Int = true
has_formulas named.Bool = true
has_formulas named.Date = false
has_formulas named.Text = false
has_formulas named.Enum = true

-- Default values

abbrev pub is_text_in : Tree → Bool
is_text_in (text t) = true
is_text_in e = false

-- Each attribute by itself and beside the others

abbrev pub fine : {X : Type 0} → Result X FormulaKind → Result (Unit {0}) FormulaKind
fine r = and_then r (λ _. Ok tt)

-- what other programs ask for is passed over, where it is of its form (an addition of this project)
unfoldable pub passed_over : List ℕ → Tree → Result (Unit {0}) FormulaKind
passed_over t e =
    if is t (codes "max_length") then fine (whole_value e)
    else (if is t (codes "metadata") then fine (mapped e)
    else (if is t (codes "is_period_size_independent") then fine (truth_value e) else bad_attribute))

-- The declaration of a variable: where it is, what is told of the variable, and its formulas as they are written.

pub record Written : Type 0 where
  pub «module» : ℕ
  pub line : ℕ
  pub label : Option (List ℕ)
  pub documentation : Option (List ℕ)
  pub unit : Option (List ℕ)
  pub reference : List (List ℕ)
  pub formulas : List Formula

-- how a declaration is seen: its formulas as they are written
abbrev pub written : Declaration → Written
written d = record {
  «module» = d.module;
  line = d.line;
  label = d.label;
  documentation = d.documentation;
  unit = d.unit;
  reference = d.reference;
  formulas = map formula_view d.formulas;
}

-- a variable and its declaration
abbrev pub both_written : Variable × Declaration → Variable × Written
both_written p = (p.0, written p.1)

abbrev pub or_none : {X : Type 0} → Option (List X) → List X
or_none None = []
or_none (Some xs) = xs
