use Rattle.std.proofs.Common.{◌≡◌, [], map, drop}
use Rattle.fisca_rules.proofs.Each.{all_behind}
use Rattle.fisca_ast.specs.ModuleViews.{statements}
use Rattle.fisca_rule_files.specs.Modules.{declared_in}
use Rattle.fisca_rule_files.proofs.modules.read_modules.Given as goal

-- what the modules so far declare, and those that are left
abbrev pub invariant-loop-file : goal.invariant-loop-file
invariant-loop-file l = all_behind declared_in (map statements l.modules.items) (map (λ f. f.now) (drop l.file-index l.files)) ≡ all_behind declared_in [] (map (λ f. f.now) l.files)
