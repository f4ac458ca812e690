-- What the types of the reader stand for.
use Rattle.std.specs.Prelude.{◌≡◌, ◌≢◌, List, Result, Ok, Err}
use Rattle.fisca_ast.specs.declared.fault.FormulaFault.{FormulaFault}
use Rattle.fisca_ast.specs.declared.fault.FormulaKind.TheVariants.{Memory}
use Rattle.fisca_parser.specs.declared.bodies.Step.{Step as Taken}
use Rattle.fisca_parser.specs.declared.bodies.Step.TheVariants as taken
use Rattle.fisca_ast.specs.declared.module.Module.{Module}
use Rattle.fisca_ast.specs.Modules.{Step, local, result, Statement}
use Rattle.fisca_ast.specs.ModuleViews.{assigned, answer, statements}

abbrev pub step : Taken → Step
step (taken.Local a) = local (assigned a)
step (taken.Result r) = result (answer r)

-- these statements were found, unless memory ran out
abbrev pub Finds : List Statement → Result Module FormulaFault → Type 0
Finds ss (Ok m) = statements m ≡ ss
Finds ss (Err f) = ¬ (f.kind ≢ Memory)
