-- The steps of code behind `Positions`:
-- The situation of a run file at a position of its grid: there the inputs that its axes move have the values of the axes.
use Rattle.std.specs.Prelude.{ℕ, List, [], ◌∷◌, map, Option, Some, None, option_map, Result, Ok, slice_get}
use Rattle.fisca_grid.specs.AxesRow.{values_of}
use Rattle.fisca_grid.specs.Grid.{axes_at}
use Rattle.fisca_grid.specs.declared.axes.AxisSpec.{AxisSpec}
use Rattle.fisca_inputs.specs.Entries.{Entries}
use Rattle.fisca_inputs.specs.Inputs.{inputs_of, without_marked}
use Rattle.fisca_inputs.specs.Rules.{rule_of}
use Rattle.fisca_inputs.specs.declared.fault.SituationFault.{SituationFault}
use Rattle.fisca_inputs.specs.declared.given.Given.{Given}
use Rattle.fisca_model.specs.declared.value.Value.TheVariants as value
use Rattle.fisca_groups.specs.Lookup.{counts_of}
use Rattle.fisca_num.specs.Number.{Number}
use Rattle.fisca_num.specs.Results.{and_then}
use Rattle.fisca_situations.specs.Steps.Cuts.{cut_for}
use Rattle.fisca_symbols.specs.declared.tables.Tables.{Tables}
use Rattle.fisca_symbols.specs.declared.variable.Variable.{Variable}
use Rattle.fisca_situations.specs.AllAxes.{put_all_in}
use Rattle.fisca_run_file.specs.RunFiles.{RunFile}

-- Values

abbrev pub cut_by : Option Variable → Number → Number
cut_by None v = v
cut_by (Some x) v = cut_for x.value_type v

-- an input with the value of its axis
abbrev pub given_with : Tables → Given → Number → Given
given_with c g v = record {
  variable = g.variable;
  member = g.member;
  period = g.period;
  value = value.Number (cut_by (slice_get c.variables g.variable) v);
  line = g.line;
}

-- inputs, each with the value of its axis
abbrev pub with_values : Tables → List Given → List Number → List Given
with_values c [] vs = []
with_values c (g ∷ gs) [] = []
with_values c (g ∷ gs) (v ∷ vs) = given_with c g v ∷ with_values c gs vs

-- The inputs that axes move, in the order of the axes, with their values at a position. These are always numbers, as `each_step_is_a_number` of
-- `fisca_grid` says.
abbrev pub moved_by : Tables → List (List AxisSpec) → List Given → ℕ → Option (List Given)
moved_by c groups moved position = option_map (with_values c moved) (values_of (axes_at groups position))

-- Situations

-- the inputs with those that axes move put in, shared anew, without those of neutralised variables
abbrev pub inputs_with : Tables → RunFile → List Given → Result Entries SituationFault
inputs_with c f moved =
    and_then (inputs_of (map rule_of c.variables) (counts_of f.members) (put_all_in f.given moved)) (λ es. Ok (without_marked f.neutral es))
