-- What a formula that is followed over memory tells is what its key needs.
use Rattle.std.proofs.Common.{◌≡◌, ◌∙◌, ◌++◌, [], ℕ, List, Bool, false, Option, Some, Result, Ok, Err, ap, map, subst, sym}
use Rattle.fisca_check.specs.Formulas.{formula_view}
use Rattle.fisca_check.specs.declared.formula.TypedFormula.{TypedFormula}
use Rattle.fisca_groups.specs.Grouped.{grouped}
use Rattle.fisca_inputs.specs.Typed.{IsValueOf}
use Rattle.fisca_ir.specs.Views.{node}
use Rattle.fisca_ir.specs.declared.node.Node.{Node}
use Rattle.fisca_memo_theory.specs.Entries.{Entries}
use Rattle.fisca_memo_theory.specs.Memory.{IsTrueMemory}
use Rattle.fisca_model.specs.Values.{Key, Value}
use Rattle.fisca_model.specs.declared.value.Value.{Value as Given}
use Rattle.fisca_ops.specs.Casts.{cast}
use Rattle.fisca_rules.specs.Rules.{known_by}
use Rattle.fisca_rules.specs.Views.{rule_set}
use Rattle.fisca_rules.specs.declared.rule_set.RuleSet.{RuleSet}
use Rattle.fisca_simulation.proofs.KnownTables.{tables_known}
use Rattle.fisca_simulation.proofs.SourceLookups.{sources_sound, works_soundly}
use Rattle.fisca_simulation.specs.Simulations.{Simulation, formula_of, sources, start_point, variable_of}
use Rattle.fisca_simulation.specs.Sound.{GivesOnly}
use Rattle.fisca_simulation.specs.Told.{IsReady}
use Rattle.fisca_situations.specs.Situations.{Situation}
use Rattle.fisca_symbols.specs.Known.{tables}
use Rattle.fisca_symbols.specs.declared.variable.Variable.{Variable}
use Rattle.fisca_simulation.specs.NotedFormulas.{noted_formula}
use Rattle.fisca_simulation.specs.Noted.{Noted, behind, unread}
use Rattle.fisca_simulation.specs.Played.{Moves, Played, Plays}
use Rattle.fisca_simulation.specs.declared.note.Halted.{Halted}
use Rattle.fisca_simulation.specs.declared.note.Halted.TheVariants as halted
use Rattle.fisca_simulation.specs.declared.note.Note.{Note}
use Rattle.fisca_explain.specs.Below.{answers_by}
use Rattle.fisca_explain.specs.Ends.{is_wanting}
use Rattle.fisca_explain.specs.Needs.{noted_work}
use Rattle.fisca_explain.proofs.Moving.{answers_typed, never_stuck, work_same}

module _ (r : RuleSet) (s : Situation) (neutral : List Bool) (v : Variable) (k : Key) (held : TypedFormula) where
  abbrev m : Simulation
  m = record { rules = rule_set r; situation = s; neutral = neutral }

  abbrev pub told : Noted
  told = behind (noted_formula (tables r.tables) (grouped s.members) (formula_view held) (start_point v k)) (λ x. unread (cast v.value_type x))

  pub told_work : told ≡ noted_work m v k (formula_view held)
  told_work = ap (λ c. behind (noted_formula c (grouped s.members) (formula_view held) (start_point v k)) (λ x. unread (cast v.value_type x))) (tables_known r)

  module _ (ready : IsReady m) (entries : Entries) (truth : IsTrueMemory (sources m) entries) (left : ℕ) (there : variable_of m.rules k ≡ Some v) (found : formula_of m.rules m.neutral v k ≡ Some (formula_view held)) where
    pub work_moves : Moves (answers_by (sources m) entries left) (noted_work m v k (formula_view held))
    work_moves =
        never_stuck (known_by m.rules) (IsValueOf (known_by m.rules) k.variable) (answers_by (sources m) entries left)
        (λ j w a. answers_typed (known_by m.rules) (sources m) (sources_sound m ready.safe ready.fit) entries truth left j w a)
        (noted_work m v k (formula_view held))
        (subst (GivesOnly (known_by m.rules) (IsValueOf (known_by m.rules) k.variable)) (sym (work_same m v k held.values.items held.result)) (works_soundly m ready.safe k v there (formula_view held) found))

    pub told_moves : Moves (answers_by (sources m) entries left) told
    told_moves = subst (Moves (answers_by (sources m) entries left)) (sym told_work) work_moves

-- the same of locals that are lent
module _ (r : RuleSet) (s : Situation) (neutral : List Bool) (v : Variable) (k : Key) (held : TypedFormula) (locals : List Node) (lent : locals ≡ held.values.items) where
  abbrev told_with : List Node → Noted
  told_with ns = behind (noted_formula (tables r.tables) (grouped s.members) (record { values = map node ns; result = node held.result }) (start_point v k)) (λ x. unread (cast v.value_type x))

  pub lent_work : told_with locals ≡ noted_work (record { rules = rule_set r; situation = s; neutral = neutral }) v k (formula_view held)
  lent_work = ap told_with lent ∙ told_work r s neutral v k held

  pub lent_moves : (W : Key → Option Value) → Moves W (told r s neutral v k held) → Moves W (told_with locals)
  lent_moves W moves = subst (λ ns. Moves W (told_with ns)) (sym lent) moves

-- what is noted up to the end, where nothing was noted before
pub notes_played : (r : Result Given Halted) (old new : List Note) (p : Played) → is_wanting r ≡ false → Plays r old new p → old ≡ [] → new ≡ p.notes
notes_played (Ok v) old new p told plays none = plays.1 ∙ ap (λ ns. ns ++ p.notes) none
notes_played (Err (halted.Fault e)) old new p told plays none = plays.1 ∙ ap (λ ns. ns ++ p.notes) none
notes_played (Err halted.Unanswered) old new p told plays none = plays.1 ∙ ap (λ ns. ns ++ p.notes) none
notes_played (Err halted.Memory) old new p told plays none = cc
