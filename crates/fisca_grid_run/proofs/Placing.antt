-- The situation of a run at a position, where slots were turned from where it stood.
use Rattle.std.proofs.Common.{◌≡◌, ◌<◌, ◌≤◌, ◌/◌, ℕ, suc, List, [], ◌∷◌, drop, length, Option, Some, None, Ok, refl, sym, ap, ◌∙◌, arith, ⊎_elim}
use Rattle.std.specs.Prelude.{option_map}
use Rattle.std.proofs.lemmas.List.{length-map, drop_all}
use Rattle.fisca_grid.specs.AxesRow.{values_of}
use Rattle.fisca_grid.specs.Grid.{axes_at, count_of, counts_of}
use Rattle.fisca_inputs.proofs.Typed.{then_ok}
use Rattle.fisca_inputs.specs.Entries.{Entries}
use Rattle.fisca_inputs.specs.declared.given.Given.{Given}
use Rattle.fisca_writer.specs.Odometer.{IsNear, places_at}
use Rattle.fisca_num.specs.Number.{Number}
use Rattle.fisca_num.specs.Results.{and_then}
use Rattle.fisca_rules.specs.Views.{rule_set}
use Rattle.fisca_rules.specs.declared.rule_set.RuleSet.{RuleSet}
use Rattle.fisca_grid_run.specs.Kept.{AreMoved, IsSituated, with_inputs}
use Rattle.fisca_grid_run.specs.Runs.{IsAsked, positions}
use Rattle.fisca_run_file.specs.Positions.{moved_at, situation_with}
use Rattle.fisca_run_file.specs.Steps.Positions.{inputs_with, with_values}
use Rattle.fisca_run_file.specs.RunFiles.{RunFile}
use Rattle.fisca_situations.specs.Situations.{Situation}
use Rattle.fisca_run.proofs.OfFiles.{at_position, start, starts}
use Rattle.fisca_run.proofs.OfPositions.{turned_to}
use Rattle.fisca_run.proofs.Positions.{each_situated}
use Rattle.fisca_run_file.specs.Slots.{places_of}
use Rattle.fisca_run_file.specs.Steps.Slots.{slots_of}
use Rattle.fisca_slots.specs.Turning.{turned_below}
use Rattle.fisca_simulation.specs.Simulations.{Simulation}
use Rattle.fisca_yaml.specs.Node.{Node}

-- the values of which inputs were made
values_behind : {X Y : Type 0} (f : X → Y) (o : Option X) (y : Y) → option_map f o ≡ Some y → (x : X) × (o ≡ Some x)
values_behind f None y h = cc
values_behind f (Some x) y h = (x, refl)

length-places : (counts : List ℕ) (position : ℕ) → length (places_at counts position) ≡ length counts
length-places [] position = refl
length-places (count ∷ counts) position = ap suc (length-places counts (position / count))

module _ (rules : RuleSet) (f : RunFile) where
  -- behind all wheels nothing is left
  none_behind : (turned position : ℕ) → length (counts_of f.groups) ≤ turned → drop turned (places_of f position) ≡ []
  none_behind turned position most = drop_all turned (places_of f position) (omega (arith, length-places (counts_of f.groups) position, most))

  -- a situation by its inputs
  inputs_in : (moved : List Given) (s : Situation) → situation_with rules.tables f moved ≡ Ok s
      → (es : Entries) × (inputs_with rules.tables f moved ≡ Ok es) × (record { members = f.members; inputs = es } ≡ s)
  inputs_in moved s h =
      let left = then_ok (inputs_with rules.tables f moved) (λ es. Ok (record { members = f.members; inputs = es })) s h in
      let same : record { members = f.members; inputs = left.0 } ≡ s = cc in
      (left.0, left.1, same)

  -- the members are those of the file
  pub situated_members : (here : Option ℕ) (m : Simulation) → IsSituated rules f here m → m.situation.members ≡ f.members
  situated_members here m stands =
      ap (λ (m : Simulation). m.situation.members) stands.same
      ∙ ap (λ (s : Situation). s.members) (sym (inputs_in stands.moved stands.situation stands.is).2)

module _ (rules : RuleSet) (n : Node) (f : RunFile) (asked : IsAsked rules n f) (position : ℕ) (turned : ℕ) where
  -- the inputs at the position
  turned_inputs : (here : Option ℕ) (before after : List Given) (vs : List Number) (es : Entries) → IsNear (counts_of f.groups) here position turned
      → AreMoved rules.tables f here before → inputs_with rules.tables f before ≡ Ok es
      → moved_at rules.tables f position ≡ Some after → values_of (axes_at f.groups position) ≡ Some vs
      → inputs_with rules.tables f after ≡ Ok (turned_below turned (slots_of rules.tables f) vs es)
  turned_inputs None before after vs es near moves is at values =
      let c = rules.tables in
      let all : length f.groups ≡ turned = sym (length-map f.groups count_of) ∙ near in
      ⊎_elim
      (λ (same : before ≡ f.moved).
      let both : Ok (start c n f asked.read) ≡ Ok es = sym (starts c n f asked.read) ∙ (ap (inputs_with c f) (sym same) ∙ is) in
      let started : start c n f asked.read ≡ es = cc in
      at_position c n f asked.read position after vs at values
      ∙ ap (λ t. Ok (turned_below t (slots_of c f) vs (start c n f asked.read))) all
      ∙ ap (λ fs. Ok (turned_below turned (slots_of c f) vs fs)) started)
      (λ (stood : (q : ℕ) × (q < positions f) × (moved_at c f q ≡ Some before)).
      let old = values_behind (with_values c f.moved) (values_of (axes_at f.groups stood.0)) before stood.2 in
      let most : length (counts_of f.groups) ≤ turned = omega (arith, near) in
      turned_to c n f asked.read stood.0 position old.0 vs old.1 values before after stood.2 at es is turned
      (none_behind rules f turned stood.0 most ∙ sym (none_behind rules f turned position most)))
      moves
  turned_inputs (Some q) before after vs es near moves is at values =
      let c = rules.tables in
      let old = values_behind (with_values c f.moved) (values_of (axes_at f.groups q)) before moves.1 in
      turned_to c n f asked.read q position old.0 vs old.1 values before after moves.1 at es is turned near

  pub turned_situated : (here : Option ℕ) (old new : Simulation) → position < positions f → IsNear (counts_of f.groups) here position turned → IsSituated rules f here old
      → ((vs : List Number) → values_of (axes_at f.groups position) ≡ Some vs
      → new ≡ with_inputs old (turned_below turned (slots_of rules.tables f) vs old.situation.inputs))
      → IsSituated rules f (Some position) new
  turned_situated here old new within near stands turns =
      let c = rules.tables in
      let there = each_situated c n f asked.read position in
      let values = values_behind (with_values c f.moved) (values_of (axes_at f.groups position)) there.moved there.moves in
      let before = inputs_in rules f stands.moved stands.situation stands.is in
      let after = turned_inputs here stands.moved there.moved values.0 before.0 near stands.moves before.1 there.moves values.1 in
      let found = turns values.0 values.1 in
      let inputs : before.0 ≡ old.situation.inputs = ap (λ (s : Situation). s.inputs) before.2 ∙ sym (ap (λ (m : Simulation). m.situation.inputs) stands.same) in
      record {
        moved = there.moved;
        situation = record { members = f.members; inputs = turned_below turned (slots_of c f) values.0 before.0 };
        moves = (within, there.moves);
        is = ap (λ r. and_then r (λ es. Ok (record { members = f.members; inputs = es }))) after;
        same = found ∙ ap (λ (m : Simulation). with_inputs m (turned_below turned (slots_of c f) values.0 old.situation.inputs)) stands.same
            ∙ (λ i. record {
              rules = rule_set rules;
              situation = record { members = sym (ap (λ (s : Situation). s.members) before.2) i; inputs = turned_below turned (slots_of c f) values.0 (sym inputs i) };
              neutral = f.neutral;
            });
      }
