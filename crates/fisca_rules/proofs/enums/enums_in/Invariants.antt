use Rattle.std.proofs.Common.{◌≡◌, ◌++◌, drop, map}
use Rattle.fisca_ast.specs.ModuleViews.{statements}
use Rattle.fisca_rules.specs.Scans.{all_enums}
use Rattle.fisca_rules.proofs.enums.enums_in.Given as goal

abbrev pub invariant-loop-module : goal.invariant-loop-module
invariant-loop-module l = l.found.items ++ all_enums (map statements (drop l.module-index l.modules)) ≡ all_enums (map statements l.modules)
