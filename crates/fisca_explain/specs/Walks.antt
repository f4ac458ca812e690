-- What a walk over keys tells.
use Rattle.std.specs.Prelude.{ℕ, ◌-◌, List, [], Option, option_map}
use Rattle.std.specs.Io.KnownBytes.{Appends}
use Rattle.fisca_forms.specs.LineForms.{Form}
use Rattle.fisca_key_semantics.specs.Answers.{most_keys}
use Rattle.fisca_memo_theory.specs.Entries.{Entries}
use Rattle.fisca_memo_theory.specs.Memory.{IsTrueMemory}
use Rattle.fisca_model.specs.Values.{Key, Value}
use Rattle.fisca_model.specs.declared.eval_fault.EvalFault.{EvalFault}
use Rattle.fisca_rules.specs.Views.{rule_set}
use Rattle.fisca_rules.specs.declared.rule_set.RuleSet.{RuleSet}
use Rattle.fisca_simulation.specs.Simulations.{Simulation, sources}
use Rattle.fisca_simulation.specs.Told.{IsReady}
use Rattle.fisca_situations.specs.Steps.Views.{situation}
use Rattle.fisca_symbols.specs.Known.{tables as known}
use Rattle.fisca_simulation.specs.declared.note.Note.{Note}
use Rattle.fisca_explain.specs.Below.{answers_by}
use Rattle.fisca_explain.specs.Columns.{Explaining, ExplainsOne, levels_of}
use Rattle.fisca_explain.specs.Explained.{Entry, Told, explained, notes_in_turn}
use Rattle.fisca_explain.specs.Needs.{needs}
use Rattle.fisca_explain.specs.Says.{AreLines, Names}
use Rattle.fisca_explain.specs.declared.explain.Explained.{Explained}
use Rattle.fisca_explain.specs.declared.view.View.{View}
use Rattle.fisca_explain.specs.declared.walk.Walk.{Walk}

module _ {R : Type 0} where
  -- the situation under the rule set; no variable is neutralised
  abbrev pub simulation_in : Walk R → Simulation
  simulation_in w = record { rules = rule_set w.view.now.rules.now; situation = situation w.situation.now; neutral = [] }

  abbrev pub names_in : Walk R → Names
  names_in w = record { tables = known w.view.now.rules.now.tables; members = (situation w.situation.now).members; fault = w.fault }

  abbrev pub form_in : Walk R → Option Form
  form_in w = option_map (λ form. form.now) w.view.now.form

  -- the values of keys below so many others, from memory
  abbrev pub answers_in : Entries → Walk R → ℕ → Key → Option Value
  answers_in entries w depth = answers_by (sources (simulation_in w)) entries (most_keys - depth)

  -- a key below so many others, where these formulas were followed before
  abbrev pub told_in : Entries → Walk R → ℕ → List Key → Key → Told
  told_in entries w depth before key =
      explained (sources (simulation_in w)) (answers_in entries w) (needs (simulation_in w) (answers_in entries w)) (levels_of w.view.now.depth - depth) depth before key

  -- what a formula needs, below so many keys
  abbrev pub notes_told_in : Entries → Walk R → ℕ → List Key → List Note → Told
  notes_told_in entries w depth before ns = notes_in_turn (told_in entries w depth) depth before ns

  -- these entries are written, where a sink held `old` and then holds `new`
  abbrev pub IsWritten : Walk R → List Entry → Option (List ℕ) → Option (List ℕ) → Type 0
  IsWritten w entries old new = (text : List ℕ) × AreLines (names_in w) (form_in w) entries text × Appends old new text

-- the rule set is safe, the inputs are of their types, and what is remembered is true
pub record CanWalk (entries : Entries) (m : Simulation) : Type 0 where
  pub ready : IsReady m
  pub truth : IsTrueMemory (sources m) entries

-- what is explained of a situation under a rule set
abbrev pub explaining_by : RuleSet → Explained → Simulation → Explaining
explaining_by r e m = record { tables = known r.tables; simulation = m; depth = e.depth; form = option_map (λ form. form.now) e.form }

abbrev pub explaining : View → Simulation → Explaining
explaining v m = explaining_by v.rules.now (record { depth = v.depth; form = v.form }) m

-- a column is told into the sink, where these formulas were followed before it; what has no value has none for this reason
abbrev pub IsColumnTold : Explaining → EvalFault → List Key → Key → Option (List ℕ) → Option (List ℕ) → Type 0
IsColumnTold x fault before key old new = (text : List ℕ) × ExplainsOne x fault before key text × Appends old new text
