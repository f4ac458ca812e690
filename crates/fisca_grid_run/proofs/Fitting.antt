-- The inputs at a position are of the types of their variables.
use Rattle.std.proofs.Common.{◌≡◌, ℕ, List, [], map, Option, Some, None, codes, ap, sym, subst, ◌∙◌}
use Rattle.std.specs.Prelude.{Ok, option_map}
use Rattle.std.specs.Option.{unwrap_or}
use Rattle.fisca_columns.specs.Steps.Calc.{default_in}
use Rattle.fisca_simulation.proofs.Fitting.{defaults_typed, fits_left}
use Rattle.fisca_simulation.proofs.KnownTables.{tables_known}
use Rattle.fisca_simulation.specs.Told.{IsReady}
use Rattle.fisca_grid.specs.AxesRow.{values_of}
use Rattle.fisca_grid.specs.Grid.{axes_at}
use Rattle.fisca_inputs.proofs.Typed.{then_ok, inputs_typed, input_typed}
use Rattle.fisca_inputs.specs.Entries.{Entries}
use Rattle.fisca_inputs.specs.Inputs.{inputs_of, without_marked}
use Rattle.fisca_inputs.specs.Rules.{rule_of}
use Rattle.fisca_model.specs.Seen.{value_seen}
use Rattle.fisca_inputs.specs.Typed.{DefaultsTyped, GivensTyped, IsValueOf}
use Rattle.fisca_inputs.specs.declared.given.Given.{Given}
use Rattle.fisca_groups.specs.Lookup.{counts_of}
use Rattle.fisca_num.specs.Number.{Number}
use Rattle.fisca_rules.specs.Views.{rule_set}
use Rattle.fisca_rules.specs.declared.rule_set.RuleSet.{RuleSet}
use Rattle.fisca_run.proofs.Files.{read_from}
use Rattle.fisca_grid_run.proofs.Numbers.{all_put_typed, moved_numbers, valued_typed}
use Rattle.fisca_grid_run.specs.Runs.{IsAsked, simulation_in}
use Rattle.fisca_situations.proofs.Typed.{read_all_typed}
use Rattle.fisca_situations.specs.AllAxes.{put_all_in}
use Rattle.fisca_run_file.specs.Positions.{moved_at, situation_with}
use Rattle.fisca_run_file.specs.Steps.Positions.{inputs_with, with_values}
use Rattle.fisca_run_file.specs.RunFiles.{RunFile}
use Rattle.fisca_situations.specs.Situations.{Situation}
use Rattle.fisca_simulation.specs.Sound.{InputsFit}
use Rattle.fisca_symbols.specs.Known.{tables as known}
use Rattle.fisca_yaml.specs.Find.{line_at}
use Rattle.fisca_yaml.specs.Steps.Find.{get}
use Rattle.fisca_yaml.specs.Node.{Node, null}

-- Positions

module _ (rules : RuleSet) (n : Node) (f : RunFile) (asked : IsAsked rules n f) where
  given_typed : GivensTyped (known rules.tables) f.given
  given_typed =
      let read = read_from rules.tables n f asked.read in
      subst (GivensTyped (known rules.tables)) (sym read.given)
      (read_all_typed rules.tables (default_in n) (line_at (codes "input") 1 n) (unwrap_or (get (codes "input") n) null) read.reading read.read)

  values_typed : (o : Option (List Number)) (moved : List Given) → option_map (with_values rules.tables f.moved) o ≡ Some moved → GivensTyped (known rules.tables) moved
  values_typed None moved h = cc
  values_typed (Some ns) moved h =
      let read = read_from rules.tables n f asked.read in
      let same : with_values rules.tables f.moved ns ≡ moved = cc in
      subst (GivensTyped (known rules.tables)) same
      (valued_typed rules.tables f.moved ns (moved_numbers rules.tables f.members (default_in n) [] read.movement.said.axes f.moved tt read.movement.moves))

  -- the inputs before those of neutralised variables are taken out
  shared_fit : (moved : List Given) (es : Entries) → GivensTyped (known rules.tables) moved
      → inputs_of (map rule_of rules.tables.variables) (counts_of f.members) (put_all_in f.given moved) ≡ Ok es
      → InputsFit (rule_set rules) (record { members = f.members; inputs = es })
  shared_fit moved es ts h =
      let c = known rules.tables in
      let same = tables_known rules in
      let defaults = subst (λ d. DefaultsTyped d (map rule_of rules.tables.variables)) (sym same) (defaults_typed rules asked.safe.defaults) in
      let typed = inputs_typed c (map rule_of rules.tables.variables) (counts_of f.members) (put_all_in f.given moved) defaults es
      (all_put_typed rules.tables f.given moved given_typed ts) h in
      λ k w there. subst (λ d. IsValueOf d k.variable (value_seen w)) same (input_typed c es typed k w there)

  pub ready_at : (position : ℕ) (moved : List Given) (s : Situation) → moved_at rules.tables f position ≡ Some moved → situation_with rules.tables f moved ≡ Ok s
      → IsReady (simulation_in rules f s)
  ready_at position moved s at h =
      let c = rules.tables in
      let left = then_ok (inputs_with c f moved) (λ es. Ok (record { members = f.members; inputs = es })) s h in
      let shared = then_ok (inputs_of (map rule_of c.variables) (counts_of f.members) (put_all_in f.given moved)) (λ es. Ok (without_marked f.neutral es)) left.0 left.1 in
      let same : record { members = f.members; inputs = left.0 } ≡ s = cc in
      let taken : without_marked f.neutral shared.0 ≡ left.0 = cc in
      let ts = values_typed (values_of (axes_at f.groups position)) moved at in
      record {
        safe = asked.safe;
        fit = fits_left (rule_set rules) f.neutral (record { members = f.members; inputs = shared.0 }) s (shared_fit moved shared.0 ts shared.1)
            (ap (λ (x : Situation). x.inputs) (sym same) ∙ sym taken);
      }
