-- The steps of code behind `Rules`:
-- Rule sets: what modules declare beside parameters, with typed formulas, or the first fault: names, then attributes and entities, then formulas.
use Rattle.std.specs.Prelude.{ℕ, List, [], map, zip, slice_get, Option, Some, None, Result, Ok, Err}
use Rattle.fisca_num.specs.Results.{and_then}
use Rattle.fisca_params.specs.Tree.{TreeNode}
use Rattle.fisca_ast.specs.Modules.{Assigned, Formula, Statement}
use Rattle.fisca_symbols.specs.KnownVariables.{value_type}
use Rattle.fisca_symbols.specs.declared.variable.Variable.{Variable}
use Rattle.fisca_model.specs.declared.value_type.ValueType.{ValueType}
use Rattle.fisca_typing.specs.Formulas as typing
use Rattle.fisca_typing.specs.Names.{Names}
use Rattle.fisca_model.specs.Tables.{Tables}
use Rattle.fisca_rules.specs.declared.build_fault.BuildFault.{BuildFault}
use Rattle.fisca_rules.specs.FirstPass.{fault_at}
use Rattle.fisca_rules.specs.Build.{Whole}
use Rattle.fisca_rules.specs.Steps.Build.{tables_of}
use Rattle.fisca_declarations.specs.VariableForms.{Written}
use Rattle.fisca_rules.specs.Rules.{known, DatedFormula, assigned_of, all_of, Rules}

-- Third pass: formulas

-- what is known in a formula before its first local
abbrev pub names_for : Tables → ℕ → Formula → Names
names_for c place f = record {
  tables = c;
  entity = place;
  asker_name = f.signature.entity;
  period_name = f.signature.period;
  reader_name = f.signature.parameters;
  locals = [];
}

-- the line of this local, or of the return behind them all
abbrev pub line_or : ℕ → Option Assigned → ℕ
line_or line None = line
line_or line (Some a) = a.line

abbrev pub line_at : Formula → ℕ → ℕ
line_at f place = line_or f.returned.line (slice_get f.locals place)

-- a fault is told of the line of its statement
abbrev pub told_in : {X : Type 0} → ℕ → Formula → Result X typing.RefusedFormula → Result X BuildFault
told_in place f (Ok x) = Ok x
told_in place f (Err r) = fault_at place (line_at f r.place) r.kind

-- a formula of a variable of this entity and type, in this module
unfoldable pub dated_of : Tables → ℕ → ℕ → ValueType → Formula → Result DatedFormula BuildFault
dated_of c place entity t f =
    and_then (told_in place f (typing.formula_of (names_for c entity f) t (map assigned_of f.locals) f.returned.value)) (λ g. Ok (record { start = f.start; formula = g }))

-- days and texts have no formulas
abbrev pub formulas_by : Tables → ℕ → Written → Option ValueType → Result (List DatedFormula) BuildFault
formulas_by c entity d None = Ok []
formulas_by c entity d (Some t) = all_of (dated_of c d.module entity t) d.formulas

-- the formulas of a variable of this declaration, or its first fault
unfoldable pub formulas_of : Tables → Variable × Written → Result (List DatedFormula) BuildFault
formulas_of c p = formulas_by c p.0.entity p.1 (value_type p.0.value_type)

-- the formulas of each variable, with its declaration beside it
abbrev pub all_formulas : Tables → List Variable → List Written → Result (List (List DatedFormula)) BuildFault
all_formulas c vs ds = all_of (formulas_of c) (zip vs ds)

-- All passes

abbrev pub with_formulas : List TreeNode → Whole → Result Rules BuildFault
with_formulas nodes w =
    and_then (all_formulas (known w nodes) w.variables w.declarations) (λ fs.
    Ok (record { entities = w.entities; enums = w.enums; variables = w.variables; declarations = w.declarations; parameters = nodes; formulas = fs }))

-- the rule set that modules make beside parameters, or its first fault
unfoldable pub rules_of : List TreeNode → List (List Statement) → Result Rules BuildFault
rules_of nodes ms = and_then (tables_of ms) (with_formulas nodes)
