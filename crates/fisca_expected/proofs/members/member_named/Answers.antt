use Rattle.std.proofs.Common.{◌≡◌, Some, None, option_map, slice_get, sym, ◌∙◌, ap}
use Rattle.std.specs.Str.{bytes_eq}
use Rattle.fisca_groups.specs.declared.entity_members.EntityMembers.{EntityMembers}
use Rattle.fisca_model.specs.Tables.{place_in}
use Rattle.fisca_situations.specs.Steps.Views.{situation}
use Rattle.fisca_expected.proofs.Names.{names_there, no_names}
use Rattle.fisca_expected.proofs.members.member_named.Goals as goal

pub returns-in-Some : goal.returns-in-Some
returns-in-Some c =
    let k = slice_get (situation c.args.situation.now).members c.args.entity in
    let there : Some c.in-Some.names.now ≡ option_map (λ (j : EntityMembers). j.names) k = ap (option_map (λ n. n.now)) (sym c.in-Some.is) ∙ c.names.ensures in
    c.place_among.ensures ∙ ap (place_in (λ n. bytes_eq n c.args.name.now)) (names_there k c.in-Some.names.now there)

pub returns-in-None : goal.returns-in-None
returns-in-None c =
    let k = slice_get (situation c.args.situation.now).members c.args.entity in
    let none : None ≡ option_map (λ (j : EntityMembers). j.names) k = ap (option_map (λ n. n.now)) (sym c.in-None.is) ∙ c.names.ensures in
    ap (place_in (λ n. bytes_eq n c.args.name.now)) (no_names k none)
