-- What is known of a file of `calc` once it is read, and what the run over its columns answers.
use Rattle.std.proofs.Common.{◌≡◌, ◌∙◌, ◌<◌, ◌≤◌, ℕ, max, nat_lt, cond, Bool, true, false, ap, ⊎_elim, inl, inr, List, [], length, Option, Some, None, Result, Ok, Err, refl, sym, subst, arith}
use Rattle.std.proofs.lemmas.Bool.Decides.{nat_tests}
use Rattle.std.proofs.lemmas.List.{append-nil}
use Rattle.std.specs.Option.{option_map_or}
use Rattle.fisca_columns.specs.Calc.{Calc, calc_of}
use Rattle.fisca_columns.specs.Formed.{column_row_in}
use Rattle.fisca_forms.specs.LineForms.{Form}
use Rattle.fisca_simulation.specs.Told.{IsReady, told_in}
use Rattle.fisca_model.specs.declared.eval_fault.EvalFault.{EvalFault}
use Rattle.fisca_writer.specs.Continued.{lines_before, rows_after}
use Rattle.fisca_writer.specs.Lines as told
use Rattle.fisca_writer.specs.Lines.{AtEnd, FaultAt, MoreFrom, first_fault, lines}
use Rattle.fisca_writer.specs.Ranges.{end_within, no_limit}
use Rattle.fisca_model.specs.declared.key.Key.{Key}
use Rattle.fisca_writer.specs.Run.{IsRun, told_end}
use Rattle.fisca_writer.specs.declared.fault.RunEnd.{RunEnd}
use Rattle.fisca_writer.specs.declared.fault.RunEnd.TheVariants.{End, More}
use Rattle.fisca_writer.specs.declared.fault.RunFault.{RunFault}
use Rattle.fisca_writer.specs.declared.fault.RunFault.TheVariants as run
use Rattle.fisca_params.specs.Source.{Source}
use Rattle.fisca_params.specs.Tree.{TreeNode}
use Rattle.fisca_rules.specs.Rules.{Rules}
use Rattle.fisca_rules.specs.Steps.Rules.{rules_of}
use Rattle.fisca_rules.specs.Views.{rule_set}
use Rattle.fisca_rules.specs.declared.rule_set.RuleSet.{RuleSet}
use Rattle.fisca_simulation.specs.Simulations.{Simulation}
use Rattle.fisca_simulation.specs.Sound.{InputsFit, IsSafeRules}
use Rattle.fisca_ast.specs.Modules.{Statement}
use Rattle.fisca_symbols.specs.Known.{tables as known}
use Rattle.fisca_yaml.specs.Node.{Node}
use Rattle.fisca_commands.specs.Calc.{Calculation, IsAsked, IsColumnsRun, IsKeyTold, IsStopped, WritesFirst, lines_of, row_of, simulation_of}
use Rattle.fisca_rule_files.specs.RuleFiles.{IsAccepted}
use Rattle.fisca_rule_files.specs.declared.refusal.Refusal.{Refusal}
use Rattle.fisca_rule_files.proofs.Built.{built}

-- The rule set

-- what an evaluator needs is known of what a text asks for
pub ready : (files : List Source) (text : List ℕ) (c : Calculation)
    → ((nodes : List TreeNode) (ms : List (List Statement)) (r : Rules) → rules_of nodes ms ≡ Ok r → IsSafeRules r)
    → ((rules : RuleSet) → IsSafeRules (rule_set rules) → (n : Node) (asked : Calc) → calc_of rules.tables n ≡ Ok asked → InputsFit (rule_set rules) asked.situation)
    → IsAccepted files (rule_set c.rules) → IsAsked c.rules text c.asked → IsReady (simulation_of c)
ready files text c safe fit accepted asked =
    let made = built files (rule_set c.rules) accepted in
    let is_safe = safe made.0 made.1.0 (rule_set c.rules) made.1.1 in
    record { safe = is_safe; fit = fit c.rules is_safe asked.0 c.asked asked.2 }

-- The run

-- over an evaluator of what is asked for, and its columns, in a form
pub columns_run : (c : Calculation) (given form : Option Form) (lead : Option ℕ) (m : Simulation) (columns : List Key) (old new : Option (List ℕ)) (answer : Result RunEnd (RunFault EvalFault))
    → given ≡ form → m ≡ simulation_of c → columns ≡ c.asked.columns
    → IsRun (column_row_in given lead (known c.rules.tables) m.situation.members (told_in m) columns) (length columns) 0 no_limit old new answer
    → IsColumnsRun c form lead old new answer
columns_run c given form lead m columns old new answer shown same all is =
    subst (λ o. IsColumnsRun c o lead old new answer) shown
    (subst (λ (n : Simulation). IsRun (column_row_in given lead (known c.rules.tables) n.situation.members (told_in n) c.asked.columns) (length c.asked.columns) 0 no_limit old new answer) same
    (subst (λ ks. IsRun (column_row_in given lead (known c.rules.tables) m.situation.members (told_in m) ks) (length ks) 0 no_limit old new answer) all is))

-- a run that no position is behind is at its end
stays : (b : Bool) (rest position : ℕ) → b ≡ false → ◌≡◌ {A = told.End EvalFault} (cond b (MoreFrom rest) AtEnd) (MoreFrom position) → ⊥
stays true rest position none e = cc
stays false rest position none e = cc

no_more : (size rest : ℕ) (o : Option (ℕ × EvalFault)) (end : RunEnd) → size ≤ rest → end_within size rest (option_map_or (λ fault. FaultAt fault.0 fault.1) o AtEnd) ≡ told_end end → end ≡ End
no_more size rest None End over e = refl
no_more size rest None (More position) over e = absurd (stays (nat_lt rest size) rest position (grind (arith, nat_tests)) e)
no_more size rest (Some fault) End over e = absurd (cc)
no_more size rest (Some fault) (More position) over e = absurd (cc)

module _ (c : Calculation) (form : Option Form) (lead : Option ℕ) (old new : Option (List ℕ)) where
  -- a run over all columns leaves none
  pub ended : (end : RunEnd) → IsColumnsRun c form lead old new (Ok end) → IsColumnsRun c form lead old new (Ok End)
  ended end is =
      let size = length c.asked.columns in
      subst (λ e. IsColumnsRun c form lead old new (Ok e)) (no_more size (max 0 size) (first_fault (row_of c form lead) size 0) end (omega arith) is.1) is

  pub starts : IsColumnsRun c form lead old new (Err run.BadPosition) → ⊥
  starts is =
      ⊎_elim (λ (below : length c.asked.columns < 0). omega (arith, below)) (λ (below : length c.asked.columns < length c.asked.columns). omega (arith, below)) is.0

  pub out_of_memory : (position : ℕ) → IsColumnsRun c form lead old new (Err (run.Memory position)) → WritesFirst (lines_of c form lead) old new
  out_of_memory position is =
      let before = lines_before position (lines_of c form lead) in
      (before, (lines (row_of c form lead) (length c.asked.columns) position (rows_after before None), is.0.lines_follow), is.1)

  pub without_value : (position : ℕ) (fault : EvalFault) (refusal : Refusal) → IsColumnsRun c form lead old new (Err (run.Eval position fault))
      → IsKeyTold c.rules c.asked.situation.members fault refusal → IsStopped c form lead old new refusal
  without_value position fault refusal is (inl e) = inr (inr (e, (lines_of c form lead, ([], sym (append-nil (lines_of c form lead))), is.2)))
  without_value position fault refusal is (inr told) = inr (inl (fault, told.0, told.1, told.2, (position, is)))
