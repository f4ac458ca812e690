use Rattle.std.proofs.Common.{◌≡◌, ◌++◌, drop, map}
use Rattle.fisca_ast.specs.ModuleViews.{statement}
use Rattle.fisca_rules.specs.Scans.{enums_of}
use Rattle.fisca_rules.proofs.enums.with_enums.Given as goal

abbrev pub invariant-loop-statement : goal.invariant-loop-statement
invariant-loop-statement l = l.found.items ++ enums_of (map statement (drop l.statement-index l.statements)) ≡ l.fn.enums.items ++ enums_of (map statement l.statements)
