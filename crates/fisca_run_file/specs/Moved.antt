-- The inputs that axes move: of which variable, member and period each is.
use Rattle.std.specs.Prelude.{ℕ, List, [], ◌∷◌, ◌++◌, map, if◌then◌else◌, Option, Result, Ok, Err}
use Rattle.fisca_columns.specs.Faults.{fault_at}
use Rattle.fisca_columns.specs.declared.fault.RunFileFault.{RunFileFault}
use Rattle.fisca_columns.specs.declared.fault.RunFileKind.TheVariants as kind
use Rattle.fisca_grid.specs.declared.axes.AxesFault.TheVariants.{AxisOverlap}
use Rattle.fisca_inputs.specs.Entries.{Entries}
use Rattle.fisca_inputs.specs.Inputs.{inputs_of}
use Rattle.fisca_inputs.specs.Rules.{rule_of}
use Rattle.fisca_inputs.specs.declared.fault.SituationFault.{SituationFault}
use Rattle.fisca_inputs.specs.declared.given.Given.{Given}
use Rattle.fisca_model.specs.declared.key.Key.{Key}
use Rattle.fisca_groups.specs.Lookup.{counts_of}
use Rattle.fisca_groups.specs.declared.entity_members.EntityMembers.{EntityMembers}
use Rattle.fisca_num.specs.Results.{and_then}
use Rattle.fisca_symbols.specs.declared.tables.Tables.{Tables}
use Rattle.fisca_time.specs.Period.{Span}
use Rattle.fisca_run_file.specs.SaidAxes.{SaidAxis}
use Rattle.fisca_situations.specs.AllAxes.{is_overlap, put_all_in}
use Rattle.fisca_run_file.specs.Steps.Moved.{moved_by}

-- What an axis moves

-- the inputs so far and those of more axes
abbrev pub with_moved : Tables → List EntityMembers → Option Span → List Given → List SaidAxis → Result (List Given) RunFileFault
with_moved c ms default gs [] = Ok gs
with_moved c ms default gs (a ∷ rest) = and_then (moved_by c ms default a) (λ g. with_moved c ms default (gs ++ g ∷ []) rest)

-- Overlaps

-- the later of two is told of
abbrev pub apart_from : List Given → List Given → List Given → Result (List Key) RunFileFault
apart_from given before [] = Ok []
apart_from given before (g ∷ gs) =
    if is_overlap given before g then fault_at g.line (kind.Axes AxisOverlap) else apart_from given (before ++ g ∷ []) gs

-- The inputs with those of axes

-- what the sharing of inputs with those of axes refuses is told of the line of `axes`
abbrev pub shared_or_fault : ℕ → Result Entries SituationFault → Result (List Key) RunFileFault
shared_or_fault key (Ok es) = Ok []
shared_or_fault key (Err f) = fault_at key (kind.Situation f.kind)

abbrev pub sharing_checked : Tables → ℕ → List EntityMembers → List Given → List Given → Result (List Key) RunFileFault
sharing_checked c key ms given moved = shared_or_fault key (inputs_of (map rule_of c.variables) (counts_of ms) (put_all_in given moved))
