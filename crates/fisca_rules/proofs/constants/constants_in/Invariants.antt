use Rattle.std.proofs.Common.{◌≡◌, ◌++◌, drop, map}
use Rattle.fisca_ast.specs.ModuleViews.{statements}
use Rattle.fisca_rules.specs.Scans.{all_constants}
use Rattle.fisca_rules.proofs.constants.constants_in.Given as goal

abbrev pub invariant-loop-module : goal.invariant-loop-module
invariant-loop-module l = l.found ++ all_constants (map statements (drop l.module-index l.modules)) ≡ all_constants (map statements l.modules)
