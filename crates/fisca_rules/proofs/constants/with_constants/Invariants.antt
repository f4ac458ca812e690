use Rattle.std.proofs.Common.{◌≡◌, ◌++◌, drop, map}
use Rattle.fisca_ast.specs.ModuleViews.{statement}
use Rattle.fisca_rules.specs.Scans.{constants_of}
use Rattle.fisca_rules.proofs.constants.with_constants.Given as goal

abbrev pub invariant-loop-statement : goal.invariant-loop-statement
invariant-loop-statement l = l.found ++ constants_of (map statement (drop l.statement-index l.statements)) ≡ l.fn.constants ++ constants_of (map statement l.statements)
