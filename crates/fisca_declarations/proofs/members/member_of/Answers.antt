use Rattle.std.proofs.Common.{◌≡◌, ◌∙◌, sym, ap, ℕ, List, Option, Some, None, slice_get}
use Rattle.std.proofs.lemmas.Option.{slice_get-get_or, slice_get_past}
use Rattle.fisca_attributes.specs.declared.dotted.Dotted.{Dotted}
use Rattle.fisca_symbols.specs.declared.choices.Choices.{Choices}
use Rattle.fisca_declarations.specs.Steps.VariableForms.{member_of as place_of}
use Rattle.fisca_declarations.proofs.members.member_of.Goals as goal

there : (cs ds : List Choices) (place : ℕ) (found : Option Choices) (d : Dotted) → ds ≡ cs → slice_get ds place ≡ found → place_of found d ≡ place_of (slice_get cs place) d
there cs ds place found d same at = ap (λ o. place_of o d) (sym at ∙ ap (λ (xs : List Choices). slice_get xs place) same)

pub returns-in-None : goal.returns-in-None
returns-in-None c =
    there c.args.declared.now.enums c.as_slice.result.now c.args.choices None c.args.dotted.now c.as_slice.ensures
    (slice_get_past c.as_slice.result.now c.args.choices c.in-None.ensures.lookup.3)

pub returns-in-Some : goal.returns-in-Some
returns-in-Some c =
    let found = c.in-Some.found.now in
    let look = c.in-Some.ensures.lookup in
    c.member_place.ensures ∙ there c.args.declared.now.enums c.as_slice.result.now c.args.choices (Some found) c.args.dotted.now c.as_slice.ensures
    (slice_get-get_or c.as_slice.result.now c.args.choices found look.3.0 ∙ ap Some (sym look.1))
