-- A file of columns that is accepted is told as one, and so is a line that is one.
use Rattle.std.proofs.Common.{◌≡◌, ℕ, List, [], ◌∷◌, length, Option, Some, None, Result, Ok, Err, refl, ap, sym, subst, ◌∙◌, inl, inr, arith}
use Rattle.std.specs.Prelude.{◌⊎◌}
use Rattle.std.specs.Io.KnownBytes.{Keeps}
use Rattle.fisca_columns.specs.Calc.{Calc}
use Rattle.fisca_commands.specs.Calc.{Calculation, IsAsked, IsCalc, IsCalculated, IsCalculatedIn, IsCalculation, IsColumnsRun, IsStopped, RefusesCalculation, RefusesText, WritesFirst, calc_names, lines_of, row_of}
use Rattle.fisca_commands.specs.CalcLines.{IsFile, IsLine, IsOfLine, LineOutcome, outcome_of}
use Rattle.fisca_grid_run.specs.Forms.{line_form_of, shown_form}
use Rattle.fisca_command_line.specs.declared.options.TableForm.{TableForm}
use Rattle.fisca_forms.specs.LineForms.{Form}
use Rattle.fisca_model.specs.declared.eval_fault.EvalFault.{EvalFault}
use Rattle.fisca_params.specs.Source.{Source}
use Rattle.fisca_api.proofs.AcceptedRuns.{unanswered_alike}
use Rattle.fisca_api.proofs.Alike.{same_calc, same_column}
use Rattle.fisca_api.proofs.Once.{accepted_once, calc_once, memory_of_files, memory_of_text}
use Rattle.fisca_api.specs.Alike.{AreAlike}
use Rattle.fisca_rule_files.specs.RuleFiles.{IsAccepted}
use Rattle.fisca_rule_files.specs.declared.refusal.Refusal.{Refusal}
use Rattle.fisca_rule_files.specs.declared.refusal.Refusal.TheVariants.{Memory}
use Rattle.fisca_rules.specs.Views.{rule_set}
use Rattle.fisca_rules.specs.declared.rule_set.RuleSet.{RuleSet}
use Rattle.fisca_writer.specs.Lines.{lines}
use Rattle.fisca_writer.specs.Ranges.{no_limit}
use Rattle.fisca_writer.specs.Run.{IsRun}
use Rattle.fisca_writer.specs.declared.fault.RunEnd.{RunEnd}
use Rattle.fisca_writer.specs.declared.fault.RunEnd.TheVariants.{End}
use Rattle.fisca_writer.specs.declared.fault.RunFault.{RunFault}
use Rattle.fisca_writer.specs.declared.fault.RunFault.TheVariants as run

abbrev of : RuleSet → Calc → Calculation
of rules asked = record { rules = rules; asked = asked }

-- Columns under rule sets that say the same

module _ (a b : RuleSet) (alike : AreAlike a b) (asked : Calc) (form : Option Form) (lead : Option ℕ) where
  columns_alike : row_of (of a asked) form lead ≡ row_of (of b asked) form lead
  columns_alike = λ i place. same_column a b alike asked form lead place i

  pub lines_alike : lines_of (of a asked) form lead ≡ lines_of (of b asked) form lead
  lines_alike = ap (λ row. lines row (length asked.columns) 0 None) columns_alike

  run_alike : (old new : Option (List ℕ)) (x : Result RunEnd (RunFault EvalFault)) → IsColumnsRun (of a asked) form lead old new x → IsColumnsRun (of b asked) form lead old new x
  run_alike old new x is = subst (λ row. IsRun row (length asked.columns) 0 no_limit old new x) columns_alike is

  stopped_alike : (old new : Option (List ℕ)) (refusal : Refusal) → IsStopped (of a asked) form lead old new refusal → IsStopped (of b asked) form lead old new refusal
  stopped_alike old new refusal (inl is) = inl (is.0, (is.1.0, run_alike old new (Err (run.Write is.1.0)) is.1.1))
  stopped_alike old new refusal (inr (inl is)) =
      inr (inl (is.0, is.1, is.2, unanswered_alike a b alike asked.situation.members is.0 is.1 is.3, (is.4.0, run_alike old new (Err (run.Eval is.4.0 is.0)) is.4.1)))
  stopped_alike old new refusal (inr (inr is)) = inr (inr (is.0, subst (λ all. WritesFirst all old new) lines_alike is.1))

  pub calculated_alike : (old new : Option (List ℕ)) (answer : Result Unit Refusal) → IsCalculated (of a asked) form lead old new answer → IsCalculated (of b asked) form lead old new answer
  calculated_alike old new (Ok done) is = run_alike old new (Ok End) is
  calculated_alike old new (Err refusal) is = stopped_alike old new refusal is

calculated_in_alike : (a b : RuleSet) → AreAlike a b → (asked : Calc) (form : TableForm) (old new : Option (List ℕ)) (answer : Result Unit Refusal)
    → IsCalculatedIn (of a asked) form old new answer → IsCalculatedIn (of b asked) form old new answer
calculated_in_alike a b alike asked form old new answer (inl is) = inl is
calculated_in_alike a b alike asked form old new answer (inr (between, begun, is)) =
    inr (between, begun, calculated_alike a b alike asked (shown_form (line_form_of form calc_names)) None between new answer is)

-- One file

pub calculation_once : (files : List Source) (text : List ℕ) (c d : Calculation) → IsCalculation files text c → IsCalculation files text d
    → AreAlike c.rules d.rules × (c.asked ≡ d.asked)
calculation_once files text c d one two =
    let alike = accepted_once files (rule_set c.rules) (rule_set d.rules) one.0 two.0 in
    (alike, calc_once c.rules d.rules alike text c.asked d.asked one.1 two.1)

pub same_lines : (files : List Source) (text : List ℕ) (c d : Calculation) → IsCalculation files text c → IsCalculation files text d → (form : Option Form) (lead : Option ℕ)
    → lines_of d form lead ≡ lines_of c form lead
same_lines files text c d one two form lead =
    let once = calculation_once files text d c two one in
    ap (λ asked. lines_of (of d.rules asked) form lead) once.1 ∙ lines_alike d.rules c.rules once.0 c.asked form lead

pub calc_told : (files : List Source) (text : List ℕ) (form : TableForm) (c : Calculation) → IsCalculation files text c → (old new : Option (List ℕ)) (answer : Result Unit Refusal)
    → IsCalc files text form old new answer → IsCalculatedIn c form old new answer ⊎ ((answer ≡ Err Memory) × Keeps old new)
calc_told files text form c own old new answer (inl is) = inr (is.1 ∙ ap Err (memory is.2), is.3)
  where
    memory : RefusesCalculation files text is.0 → is.0 ≡ Memory
    memory (inl refused) = memory_of_files files (rule_set c.rules) is.0 own.0 refused
    memory (inr refused) = memory_of_text refused.0 c.rules (accepted_once files (rule_set refused.0) (rule_set c.rules) refused.1 own.0) text is.0 c.asked own.1 refused.2
calc_told files text form c own old new answer (inr is) =
    let d = is.0 in
    let once = calculation_once files text d c is.1 own in
    let file = subst (λ asked. IsCalculatedIn (of d.rules asked) form old new answer) once.1 is.2 in
    inl (calculated_in_alike d.rules c.rules once.0 c.asked form old new answer file)

-- One line of many files

-- a line that is a file of columns is told as one
pub line_told : (rules : RuleSet) (form : Option Form) (path : List ℕ) (number : ℕ) (text : List ℕ) (asked : Calc) (outcome : LineOutcome) → IsFile text → IsAsked rules text asked
    → IsLine rules form path number text outcome
    → (written : List ℕ) × (answer : Result Unit Refusal) × IsOfLine answer
    × IsCalculated (record { rules = rules; asked = asked }) form (Some number) (Some []) (Some written) answer × (outcome ≡ outcome_of path number written answer)
line_told rules form path number text asked outcome file own (inl is) = let long = is.0 in let short = file.0 in absurd (omega (arith, long, short))
line_told rules form path number text asked outcome file own (inr (inl is)) = absurd (is.1 file.1)
line_told rules form path number text asked outcome file own (inr (inr (it, (written, answer, of_line, inl is, same)))) = absurd (not_memory answer of_line (is.1 ∙ ap Err memory))
  where
    memory : is.0 ≡ Memory
    memory = memory_of_text rules rules refl text is.0 asked own is.2

    not_memory : (answer : Result Unit Refusal) → IsOfLine answer → answer ≡ Err Memory → ⊥
    not_memory (Ok done) of_line e = cc
    not_memory (Err refusal) of_line e = let same : refusal ≡ Memory = cc in of_line.1 same
line_told rules form path number text asked outcome file own (inr (inr (it, (written, answer, of_line, inr is, same)))) =
    let there : IsAsked rules text is.0.asked = is.2 in
    let under = subst (λ r. IsCalculated (of r is.0.asked) form (Some number) (Some []) (Some written) answer) is.1 is.3 in
    (written, answer, of_line, subst (λ x. IsCalculated (of rules x) form (Some number) (Some []) (Some written) answer) (calc_once rules rules refl text is.0.asked asked there own) under, same)
