use Rattle.std.proofs.Common.{◌≡◌, ◌+◌, [], length, map}
use Rattle.std.specs.Vec.Iter.{into_iter_items, into_iter_len}
use Rattle.fisca_rules.specs.FirstPass.{names_from, placed_from}
use Rattle.fisca_ast.specs.ModuleViews.{statements}
use Rattle.fisca_rules.specs.Build.{none_yet}
use Rattle.fisca_rules.specs.Steps.Build.{found_from}
use Rattle.fisca_rules.specs.Walk.{Reached}
use Rattle.fisca_rules.proofs.statements.walk_modules.Given as goal

abbrev pub invariant-loop-module : goal.invariant-loop-module
invariant-loop-module l =
    Reached l.declared l.seen l.found (names_from [] (placed_from 0 (map statements l.fn.modules.items))) (found_from l.declared none_yet (placed_from 0 (map statements l.fn.modules.items)))
    (placed_from l.place (map statements (into_iter_items l.module-iterator)))
    × (into_iter_len l.module-iterator ≡ length (into_iter_items l.module-iterator))
    × (l.place + length (into_iter_items l.module-iterator) ≡ length l.fn.modules.items)
