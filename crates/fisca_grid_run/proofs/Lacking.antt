-- Whether a row has a word in the place of a value, from position to position.
use Rattle.std.proofs.Common.{◌≡◌, ◌⊎◌, ◌↔◌, ◌<◌, ◌≤◌, ◌||◌, ℕ, suc, Bool, true, false, List, Option, Some, Result, Ok, Err, refl, sym, ap, ◌∙◌, arith, inl, inr, ⊎_elim}
use Rattle.std.proofs.lemmas.Bool.{cases_lt, or_left, or_right}
use Rattle.std.specs.Prelude.{⊤}
use Rattle.fisca_inputs.specs.declared.given.Given.{Given}
use Rattle.fisca_model.specs.declared.eval_fault.EvalFault.{EvalFault}
use Rattle.fisca_rules.specs.declared.rule_set.RuleSet.{RuleSet}
use Rattle.fisca_run_file.specs.Positions.{moved_at, situation_with}
use Rattle.fisca_run_file.specs.RunFiles.{RunFile}
use Rattle.fisca_simulation.specs.Simulations.{Simulation}
use Rattle.fisca_simulation.specs.Told.{told_in}
use Rattle.fisca_symbols.specs.Known.{tables as known}
use Rattle.fisca_writer.specs.Came.{IsStep}
use Rattle.fisca_writer.specs.declared.fault.RowFault.{RowFault}
use Rattle.fisca_writer.specs.declared.fault.RowFault.TheVariants as fault
use Rattle.fisca_writer.specs.declared.rows.Selection.{Selection}
use Rattle.fisca_rows.specs.Going.{lacks_in, styled_row}
use Rattle.fisca_grid_run.specs.Kept.{IsSituated}
use Rattle.fisca_grid_run.specs.Runs.{LacksValue, lacks_at, lacks_of, lacks_with, row_in, row_with, run_row, simulation_in}
use Rattle.fisca_rows.specs.declared.style.RowStyle.{RowStyle}

pub or_none : (b : Bool) → b ≡ (b || false)
or_none true = refl
or_none false = refl

pub or_some : (b : Bool) → true ≡ (b || true)
or_some true = refl
or_some false = refl

either : (a b : Bool) → (a || b) ≡ true → (a ≡ true) ⊎ (b ≡ true)
either true b h = inl refl
either false b h = inr h

-- A step

-- where something holds whatever the row came to
pub step_always : (P : Type 0) (result : Result Selection (RowFault EvalFault)) → P → IsStep P ⊤ result
step_always P (Ok x) p = p
step_always P (Err (fault.Eval x)) p = p
step_always P (Err fault.Memory) p = tt

-- what follows holds too
pub step_for : (P L : Type 0) (result : Result Selection (RowFault EvalFault)) → (P → L) → IsStep P ⊤ result → IsStep L ⊤ result
step_for P L (Ok x) to p = to p
step_for P L (Err (fault.Eval x)) to p = to p
step_for P L (Err fault.Memory) to p = tt

module _ (rules : RuleSet) (style : RowStyle) (f : RunFile) where
  -- The row at a position

  module _ (position : ℕ) (m : Simulation) (there : IsSituated rules f (Some position) m) where
    pub row_there : run_row rules style f position ≡ styled_row style (known rules.tables) (told_in m) f.conditions f.columns position there.moved
    row_there =
        ap (row_with rules style f position) there.moves.1
        ∙ (ap (row_in rules style f position there.moved) there.is
        ∙ ap (λ (n : Simulation). styled_row style (known rules.tables) (told_in n) f.conditions f.columns position there.moved) (sym there.same))

    pub lacks_there : lacks_at rules style f position ≡ lacks_in style (told_in m) f.conditions f.columns
    lacks_there =
        ap (lacks_of rules style f) there.moves.1
        ∙ (ap (lacks_with rules style f) there.is ∙ ap (λ (n : Simulation). lacks_in style (told_in n) f.conditions f.columns) (sym there.same))

  -- From position to position

  pub none_lack : (from stop : ℕ) (lacks : Bool) → stop ≤ from → (lacks ≡ true) ↔ ((lacks ≡ true) ⊎ LacksValue rules style f from stop)
  none_lack from stop lacks low =
      (λ is. inl is, λ either. ⊎_elim (λ was. was) (λ (w : LacksValue rules style f from stop). absurd (omega (arith, w.1, w.2, low))) either)

  pub one_lacks : (from stop : ℕ) (old between new : Bool) → from ≤ stop → (between ≡ true) ↔ ((old ≡ true) ⊎ LacksValue rules style f from stop)
      → new ≡ (between || lacks_at rules style f stop) → (new ≡ true) ↔ ((old ≡ true) ⊎ LacksValue rules style f from (suc stop))
  one_lacks from stop old between new within before here = (there, back)
    where
      wider : LacksValue rules style f from stop → LacksValue rules style f from (suc stop)
      wider w = let less = w.2 in (w.0, w.1, omega (arith, less), w.3)

      there : new ≡ true → (old ≡ true) ⊎ LacksValue rules style f from (suc stop)
      there is = ⊎_elim
          (λ (was : between ≡ true). ⊎_elim (λ o. inl o) (λ w. inr (wider w)) (before.0 was))
          (λ (now : lacks_at rules style f stop ≡ true). inr (stop, within, omega arith, now))
          (either between (lacks_at rules style f stop) (sym here ∙ is))

      was_so : between ≡ true → new ≡ true
      was_so was = here ∙ or_left between (lacks_at rules style f stop) was

      back : (old ≡ true) ⊎ LacksValue rules style f from (suc stop) → new ≡ true
      back (inl o) = was_so (before.1 (inl o))
      back (inr w) = ⊎_elim
          (λ (low : w.0 < stop). was_so (before.1 (inr (w.0, w.1, low, w.3))))
          (λ (high : stop ≤ w.0).
          let below = w.2 in
          let last : stop ≡ w.0 = omega (arith, high, below) in
          here ∙ or_right between (lacks_at rules style f stop) (ap (lacks_at rules style f) last ∙ w.3))
          (cases_lt w.0 stop)
