-- The formulas among lines, as they are written.
use Rattle.std.proofs.Common.{◌≡◌, List, [], ◌∷◌, map, refl, ap}
use Rattle.fisca_ast.specs.ModuleViews.{formula_view, item}
use Rattle.fisca_ast.specs.declared.module.ClassLine.{ClassLine}
use Rattle.fisca_ast.specs.declared.module.ClassLine.TheVariants as part
use Rattle.fisca_declarations.specs.FormulaLines.{formulas_in}
use Rattle.fisca_declarations.specs.Steps.VariableForms.{formulas_of}

pub formulas_written : (lines : List ClassLine) → map formula_view (formulas_in lines) ≡ formulas_of (map item lines)
formulas_written [] = refl
formulas_written (part.Attribute a ∷ more) = formulas_written more
formulas_written (part.Formula f ∷ more) = ap (λ fs. formula_view f.value ∷ fs) (formulas_written more)
