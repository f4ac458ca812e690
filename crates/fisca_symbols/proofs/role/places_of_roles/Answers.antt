use Rattle.std.proofs.Common.{◌≡◌, ℕ, suc, ◌+◌, List, ◌∷◌, drop, sym, ◌∙◌, ap, add-one}
use Rattle.std.proofs.Math.Seq.{drop-cons}
use Rattle.std.specs.Str.{bytes_eq}
use Rattle.fisca_symbols.proofs.Noted.{noted_role}
use Rattle.fisca_symbols.specs.declared.role.Role.{Role}
use Rattle.fisca_symbols.specs.KnownRoles.{role, roles}
use Rattle.fisca_symbols.specs.Steps.Spelling.{spelled}
use Rattle.fisca_model.specs.Tables.{otherwise, role_from}
use Rattle.indexmap.specs.IndexMap.{get}
use Rattle.fisca_symbols.proofs.role.places_of_roles.Goals as goal

-- the role at hand comes first of what is left
pub loop-at-preserved : goal.loop-at-preserved
loop-at-preserved c t =
    let at = c.loop-at.at in
    let items = c.args.items.now in
    let item = c.index-items-at.result in
    let is = λ (key : List ℕ). bytes_eq (spelled c.args.spelling key) t in
    let split : drop at items ≡ item ∷ drop (at + 1) items =
    rw add-one (drop-cons items at item c.loop-at-test.true ∙ ap (λ (r : Role). r ∷ drop (suc at) items) (sym c.index-items-at.is)) in
    noted_role is at (role item) (roles (drop (at + 1) items)) _ (get bytes_eq c.loop-at.places t) (c.in_ok-note_role.ensures t)
    ∙ ap (λ (rs : List Role). otherwise (get bytes_eq c.loop-at.places t) (role_from is at (roles rs))) (sym split) ∙ c.loop-at.invariant t
