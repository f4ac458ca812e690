use Rattle.std.proofs.Common.{◌∷◌, ◌+◌, ◌∙◌, ◌||◌, List, drop, ap, sym}
use Rattle.std.proofs.lemmas.List.{drop_more}
use Rattle.indexmap.specs.IndexSet.{contains}
use Rattle.fisca_inputs.specs.Entries.{same_key}
use Rattle.fisca_inputs.specs.Inputs.{key_given}
use Rattle.fisca_situations.specs.GivenKeys.{is_key_of}
use Rattle.fisca_inputs.specs.declared.given.Given.{Given}
use Rattle.fisca_model.specs.declared.key.Key.{Key}
use Rattle.fisca_situations.proofs.GivenKeys.{noted_next}
use Rattle.fisca_situations.proofs.given_inputs.note_all.Goals as goal

pub loop-given-preserved : goal.loop-given-preserved
loop-given-preserved c =
    let items = c.args.items.now in
    let i = c.loop-given.given-index in
    let g = c.given-item.result in
    let next = drop_more items i g c.loop-given-test.true ∙ ap (λ x. x ∷ drop (i + 1) items) (sym c.given-item.is) in
    λ k. noted_next (contains same_key c.note.new.keys k) (contains same_key c.loop-given.keys k) (same_key (key_given g) k) (is_key_of (drop (i + 1) items) k) (is_key_of items k)
    (c.in_ok-_is_new.ensures.noted k ∙ ap (λ (j : Key). same_key j k || contains same_key c.loop-given.keys k) c.key_of.ensures)
    (ap (λ (gs : List Given). contains same_key c.loop-given.keys k || is_key_of gs k) (sym next) ∙ c.loop-given.invariant k)
