-- The steps of code behind `Lines`:
-- The lines of a variable, each beside what came before it.
use Rattle.std.specs.Prelude.{List, [], ◌∷◌, ◌++◌, Bool, not, ◌&&◌, if◌then◌else◌, Option, Some, None, Result, Ok}
use Rattle.std.specs.List.{list_any}
use Rattle.std.specs.Str.{bytes_eq}
use Rattle.fisca_num.specs.Results.{and_then}
use Rattle.fisca_ast.specs.Modules.{Assigned, Formula, Item, attribute, formula}
use Rattle.fisca_time.specs.Instant.{CivilDate}
use Rattle.fisca_ast.specs.declared.fault.FormulaKind.{FormulaKind}
use Rattle.fisca_attributes.specs.Values.{bad_attribute}
use Rattle.fisca_declarations.specs.declared.declared.Declared.{Declared}
use Rattle.fisca_declarations.specs.declared.attributes.Attributes.{Attributes}
use Rattle.fisca_declarations.specs.declared.types.TypeLines.{TypeLines}
use Rattle.fisca_declarations.specs.Steps.VariableForms.{if_allowed, may_have_formulas, same_day}
use Rattle.fisca_declarations.specs.Lines.{Before, with_attribute}

-- what is known behind an attribute that is right and comes for the first time, and what is said with it
abbrev pub behind_attribute : Declared → TypeLines → Before → Attributes → Assigned → Result (Before × Attributes) FormulaKind
behind_attribute c k b s a =
    if list_any (λ n. bytes_eq n a.name) b.names then bad_attribute
    else and_then (with_attribute c k s a.name a.value) (λ said. Ok (record b { names = b.names ++ a.name ∷ [] }, said))

-- the days with one more behind them, or nothing where it is one of them
abbrev pub with_day : List CivilDate → CivilDate → Option (List CivilDate)
with_day ds d = if list_any (λ e. same_day e d) ds then None else Some (ds ++ d ∷ [])

-- what is known behind a formula, where there may be one and none starts on its day
abbrev pub behind_formula : Bool → Before → Formula → Result Before FormulaKind
behind_formula may b f =
    if_allowed (may && not (list_any (λ d. same_day d f.start) b.days)) (record b { days = b.days ++ f.start ∷ [] })

-- what is known behind a line of a variable of this type, and what is said with it
abbrev pub behind_line : Declared → TypeLines → Before → Attributes → Item → Result (Before × Attributes) FormulaKind
behind_line c k b s (attribute a) = behind_attribute c k b s a
behind_line c k b s (formula f) = and_then (behind_formula (may_have_formulas k) b f) (λ next. Ok (next, s))
