-- What is told of an axis that is put into a situation which keeps what is given.
use Rattle.std.proofs.Common.{◌≡◌, ◌≤◌, ℕ, List, length, Bool, true, None, Option, sym, ap, subst, ◌∙◌}
use Rattle.std.specs.Prelude.{Result, Ok, Err, slice_get}
use Rattle.std.proofs.lemmas.Option.{slice_get_past}
use Rattle.fisca_evaluator.specs.Evaluators.{AreMarked}
use Rattle.fisca_inputs.specs.Outcomes.{Tells}
use Rattle.fisca_inputs.specs.declared.fault.SituationFault.{SituationFault}
use Rattle.fisca_inputs.specs.declared.fault.SituationKind.TheVariants.{UnknownVariable}
use Rattle.fisca_inputs.specs.declared.given.Given.{Given}
use Rattle.fisca_memo_theory.specs.Reads.{Moves, reads_wheel}
use Rattle.fisca_model.specs.Values as meaning
use Rattle.fisca_model.specs.declared.key.Key.{Key}
use Rattle.fisca_num.specs.Results.{and_then}
use Rattle.fisca_situations.specs.Axes as axes
use Rattle.fisca_situations.specs.Situations as situations
use Rattle.fisca_situations.specs.Slots.{Slot}
use Rattle.fisca_situations.specs.Steps.Axes.{moved_by}
use Rattle.fisca_situations.specs.Views.{slot as slot_view}
use Rattle.fisca_situations.specs.declared.slot.Slot as declared
use Rattle.fisca_symbols.specs.declared.tables.Tables.{Tables}
use Rattle.fisca_symbols.specs.declared.variable.Variable.{Variable}
use Rattle.fisca_api.specs.Marks.{with_wheel}
use Rattle.fisca_api.specs.Situations.{Moved, Situation, with_axis}
use Rattle.fisca_api.proofs.Wheels.{has_wheel}

module _ (c : Tables) (s : Situation) (wheel : ℕ) (k : Key) where
  -- what is told then
  abbrev pub moved_then : axes.Moving → Moved
  moved_then m = record { situation = record { given = m.given; shared = m.situation; neutral = s.neutral }; slot = m.slot }

  abbrev behind : axes.Moving → Result Moved SituationFault
  behind m = Ok (moved_then m)

  -- as without what is kept
  pub axis_moved : (m : axes.Moving) → axes.with_axis c s.neutral s.shared s.given wheel k ≡ Ok m → with_axis c s wheel k ≡ Ok (moved_then m)
  axis_moved m h = ap (λ (r : Result axes.Moving SituationFault). and_then r behind) h

  pub axis_refused : (f : SituationFault) → axes.with_axis c s.neutral s.shared s.given wheel k ≡ Err f → with_axis c s wheel k ≡ Err f
  axis_refused f h = ap (λ (r : Result axes.Moving SituationFault). and_then r behind) h

  -- there is no such variable
  pub axis_unknown : length c.variables ≤ k.variable → with_axis c s wheel k ≡ Err (record { line = 0; kind = UnknownVariable })
  axis_unknown past =
      ap (λ (o : Option Variable). and_then (and_then (moved_by s.shared.members s.given k o) (axes.moving c s.neutral s.shared s.given wheel)) behind)
      (slice_get_past c.variables k.variable past)

-- of an answer
pub axis_told : (c : Tables) (s : Situation) (wheel : ℕ) (k : Key) (r : Result declared.Slot SituationFault) (gs : List Given) (t : situations.Situation)
    → Tells (λ x. record { given = gs; situation = t; slot = slot_view x }) (axes.with_axis c s.neutral s.shared s.given wheel k) r
    → Tells (λ x. record { situation = record { given = gs; shared = t; neutral = s.neutral }; slot = slot_view x }) (with_axis c s wheel k) r
axis_told c s wheel k (Ok x) gs t told = axis_moved c s wheel k (record { given = gs; situation = t; slot = slot_view x }) told
axis_told c s wheel k (Err f) gs t told = (λ other. axis_refused c s wheel k f (told.0 other), told.1)

-- the slot's variable has the slot's wheel
pub slot_marked : (marks : meaning.Key → ℕ) (old : ℕ → ℕ) (variable wheel : ℕ) (t : Slot) → ((k : meaning.Key) → marks k ≡ with_wheel wheel variable old k.variable)
    → t.wheel ≡ wheel → t.variable ≡ variable → AreMarked marks t
slot_marked marks old variable wheel t are own is k same =
    let has : reads_wheel (with_wheel wheel variable old k.variable) wheel ≡ true = has_wheel wheel variable old k.variable (same ∙ is) in
    subst (λ (w : ℕ). Moves marks w k) (sym own) (ap (λ (n : ℕ). reads_wheel n wheel) (are k) ∙ has)
