-- The formulas of a variable, among its lines.
use Rattle.std.specs.Prelude.{List, [], ◌∷◌}
use Rattle.fisca_ast.specs.declared.module.Formula.{Formula}
use Rattle.fisca_ast.specs.declared.module.ClassLine.{ClassLine}
use Rattle.fisca_ast.specs.declared.module.ClassLine.TheVariants as item

abbrev pub formulas_in : List ClassLine → List Formula
formulas_in [] = []
formulas_in (item.Attribute a ∷ more) = formulas_in more
formulas_in (item.Formula f ∷ more) = f.value ∷ formulas_in more
