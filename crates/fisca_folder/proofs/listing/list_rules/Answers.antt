use Rattle.std.proofs.Common.{◌≡◌, ◌≤◌, ◌∙◌, ap, sym, arith, length}
use Rattle.std.proofs.lemmas.Result.{err_from_is_err_and}
use Rattle.fisca_folder.specs.Folder.{Found, found_in}
use Rattle.fisca_folder.proofs.Looks.{fault_below, fault_on_top, on_top, one_deeper, rule_paths}
use Rattle.fisca_folder.proofs.listing.list_rules.Goals as goal

pub returns-in_err-found-clause-paths : goal.returns-in_err-found-clause-paths
returns-in_err-found-clause-paths g c = λ known says.
    let told = err_from_is_err_and c.from_residual.result c.from_residual.ensures.1 in
    rw (told.1, told.2) (fault_on_top known c.in_err-found.field-0.0 (c.in_err-found.ensures.found known says))

pub levels-init : goal.levels-init
levels-init g c = (c.in_ok-found.ensures.few, λ known says. c.in_ok-found.ensures.found known says ∙ sym (on_top known))

pub returns-in_err-found-2-clause-paths : goal.returns-in_err-found-2-clause-paths
returns-in_err-found-2-clause-paths g c = λ known says.
    let told = err_from_is_err_and c.from_residual-in_err-found-2.result c.from_residual-in_err-found-2.ensures.1 in
    rw (told.1, told.2) (fault_below known c.levels.level c.levels.found c.in_err-found-2.field-0.0 c.levels-test.true (c.levels.invariant.1 known says) (c.in_err-found-2.ensures.found known says))

pub levels-preserved : goal.levels-preserved
levels-preserved g c = (c.in_ok-found-2.ensures.few, λ known says. c.in_ok-found-2.ensures.found known says ∙ one_deeper known c.levels.level c.levels.found (c.levels.invariant.1 known says))

pub returns-clause-paths : goal.returns-clause-paths
returns-clause-paths g c = λ known says.
    let ended : c.levels.level ≡ 8 = omega (arith, c.levels.auto.level-end) in
    let found = c.found.view_is in
    let few : length c.found.inside.files.items ≤ 1000 = grind arith in
    rule_paths known c.levels.found c.found.inside.files.items c.sort.new.self.items (c.levels.invariant.1 known says ∙ ap (found_in known) ended) (ap (λ (f : Found). f.is_short) (sym found)) c.levels.invariant.0 few
    (ap (λ (f : Found). f.files) found) c.sort.ensures.permutation c.in_ok-sort.ensures.sorted
