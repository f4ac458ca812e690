use Rattle.std.proofs.Common.{◌≡◌, ◌<◌, ◌≤◌, ◌∷◌, ◌++◌, ◌∙◌, [], List, length, get_or, sym, ap, add-one, arith}
use Rattle.std.proofs.Math.ListN.{set}
use Rattle.fisca_inputs.specs.declared.given.Given.{Given}
use Rattle.fisca_situations.specs.Steps.Axes.{put_in}
use Rattle.fisca_situations.proofs.Puts.{put_here, put_past, put_behind}
use Rattle.fisca_situations.proofs.putting.put_in.Goals as goal

pub returns-then-is_same : goal.returns-then-is_same
returns-then-is_same c =
    let gs = c.args.given.now.items in
    let i = c.loop-i.i in
    let stays = c.loop-i.invariant.stays in
    let inside : i < length gs = omega arith in
    let h = c.index.result.now in
    let there : h ≡ get_or gs i h = c.index.ensures ∙ ap (λ (hs : List Given). get_or hs i h) stays in
    ap (λ (hs : List Given). set hs i c.args.input) stays ∙ sym (c.loop-i.invariant.past ∙ put_here gs c.args.input h i inside there (sym c.is_same.ensures ∙ c.if-is_same.true))

pub loop-i-preserved : goal.loop-i-preserved
loop-i-preserved c =
    let gs = c.args.given.now.items in
    let i = c.loop-i.i in
    let stays = c.loop-i.invariant.stays in
    let inside : i < length gs = omega arith in
    let h = c.index.result.now in
    let there : h ≡ get_or gs i h = c.index.ensures ∙ ap (λ (hs : List Given). get_or hs i h) stays in
    record { stays = stays; past = rw add-one (c.loop-i.invariant.past ∙ put_past gs c.args.input h i inside there (sym c.is_same.ensures ∙ c.if-is_same.false)) }

pub returns : goal.returns
returns c =
    let gs = c.args.given.now.items in
    let i = c.loop-i.i in
    let past : length gs ≤ i = omega arith in
    let there : put_in gs c.args.input ≡ gs ++ c.args.input ∷ [] = c.loop-i.invariant.past ∙ put_behind gs c.args.input i past in
    rw there (rw c.loop-i.invariant.stays at c.push_input.ensures)
