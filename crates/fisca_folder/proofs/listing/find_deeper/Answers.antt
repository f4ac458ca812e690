use Rattle.std.proofs.Common.{ℕ, List, String, [], ap, ◌∙◌, false, map, string_bytes}
use Rattle.std.specs.declared.alloc.Global.{Global}
use Rattle.std.proofs.lemmas.Result.{err_from_is_err_and}
use Rattle.fisca_folder.specs.Folder.{Found}
use Rattle.fisca_folder.proofs.Looks.{fault_of_folder}
use Rattle.fisca_folder.proofs.listing.find_deeper.Goals as goal

abbrev found_with : List (String Global) → List (String Global) → ℕ → Found
found_with deeper files seen = record { deeper = map (λ p. string_bytes p) deeper; files = map (λ p. string_bytes p) files; seen = seen; is_short = false }

pub returns-in_err-look_into-clause-found : goal.returns-in_err-look_into-clause-found
returns-in_err-look_into-clause-found g c = λ known says.
    let told = err_from_is_err_and c.from_residual.result c.from_residual.ensures.1 in
    let given = c.args.found in
    rw (told.1, told.2)
    (fault_of_folder known given _ c.loop-path.found c.found.inside.deeper.items c.as_slice-path-items.result.now c.loop-path.path-index c.path-item.result c.as_str.result.now c.in_err-look_into.field-0.0
    (ap (λ (paths : List (String Global)). found_with paths c.found.inside.files.items c.found.inside.seen) c.new.ensures.items ∙ ap (λ (f : Found). record f { deeper = [] }) c.found.view_is)
    (ap (λ (f : Found). f.deeper) c.found.view_is)
    c.as_slice-path-items.ensures.value c.loop-path-test.true c.path-item.is c.as_str.ensures.value (c.loop-path.invariant.1 known says) (c.in_err-look_into.ensures.found known says))
