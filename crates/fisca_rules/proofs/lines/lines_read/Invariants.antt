use Rattle.std.proofs.Common.{◌≡◌, drop, map}
use Rattle.fisca_ast.specs.ModuleViews.{item}
use Rattle.fisca_declarations.specs.Lines.{before, nothing_before, nothing_said}
use Rattle.fisca_rules.specs.Steps.Passes.{lines_read}
use Rattle.fisca_rules.proofs.lines.lines_read.Given as goal

abbrev pub invariant-loop-line : goal.invariant-loop-line
invariant-loop-line l =
    lines_read l.declared l.place l.types (before l.before) l.said (map item (drop l.line-index l.items))
    ≡ lines_read l.declared l.place l.types nothing_before nothing_said (map item l.items)
