use Rattle.std.proofs.Common.{◌≡◌, ◌++◌, map}
use Rattle.fisca_rule_files.specs.Steps.Modules.{modules_in}
use Rattle.fisca_rule_files.proofs.modules.modules_in.Given as goal

-- the modules so far, and those of the files that are left
abbrev pub invariant-loop-place : goal.invariant-loop-place
invariant-loop-place l = modules_in (map (λ e. (e.0.1, e.1.now)) l.sorted.entries) ≡ map (λ f. f.now) l.modules.items ++ modules_in (map (λ e. (e.0.1, e.1.now)) l._place-iterator)
