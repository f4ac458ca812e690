use Rattle.std.proofs.Common.{◌≡◌, ℕ, List, map, Option, Some, None, slice_get, option_map, sym, ◌∙◌, ap}
use Rattle.std.proofs.lemmas.Option.{slice_get-get_or, slice_get_past, slice_get-map}
use Rattle.fisca_symbols.specs.declared.choices.Choices.{Choices}
use Rattle.fisca_symbols.specs.KnownEnums.{choices}
use Rattle.fisca_model.specs.Tables.{members_of}
use Rattle.std.specs.Str.{bytes_eq}
use Rattle.fisca_model.specs.Tables.{place_in}
use Rattle.fisca_symbols.proofs.tables.Tables.member_named.Goals as goal

there : (cs ds : List Choices) (place : ℕ) (found : Option Choices) (t : List ℕ) → ds ≡ cs → slice_get ds place ≡ found
    → place_in (λ m. bytes_eq m t) (members_of (option_map choices found)) ≡ place_in (λ m. bytes_eq m t) (members_of (slice_get (map choices cs) place))
there cs ds place found t same at =
    ap (λ o. place_in (λ m. bytes_eq m t) (members_of o)) (sym (slice_get-map choices cs place ∙ ap (option_map choices) (ap (λ (xs : List Choices). slice_get xs place) (sym same) ∙ at)))

pub returns-in-None : goal.returns-in-None
returns-in-None c =
    there c.args.self.now.enums c.as_slice.result.now c.args.choices None c.args.name.now c.as_slice.ensures
    (slice_get_past c.as_slice.result.now c.args.choices c.in-None.ensures.lookup.3)

pub returns-in-Some : goal.returns-in-Some
returns-in-Some c =
    let found = c.in-Some.found.now in
    let look = c.in-Some.ensures.lookup in
    c.of_name.ensures ∙ there c.args.self.now.enums c.as_slice.result.now c.args.choices (Some found) c.args.name.now c.as_slice.ensures
    (slice_get-get_or c.as_slice.result.now c.args.choices found look.3.0 ∙ ap Some (sym look.1))
