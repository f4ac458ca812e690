-- Rule sets that say the same read each file alike, and give the same rows.
use Rattle.std.proofs.Common.{◌≡◌, ℕ, Bool, List, [], Option, Some, None, Result, Ok, Err, refl, ap, ap₂, sym, ◌∙◌}
use Rattle.std.proofs.lemmas.Bool.{true≢false}
use Rattle.fisca_columns.specs.Calc.{Calc, calc_of}
use Rattle.fisca_columns.specs.Formed.{column_row_in}
use Rattle.fisca_commands.specs.Calc as calc
use Rattle.fisca_rows.specs.FormedLines.{asked_row_in}
use Rattle.fisca_rows.specs.Going.{going_row, lacks_in, styled_row}
use Rattle.fisca_grid_run.specs.Run.{IsStyleOf}
use Rattle.fisca_grid_run.specs.Runs.{lacks_at, lacks_of, lacks_with, row_in, row_with, run_row, simulation_in}
use Rattle.fisca_commands.specs.Test.{test_context_in}
use Rattle.fisca_rows.specs.declared.style.RowStyle.{RowStyle}
use Rattle.fisca_rows.specs.declared.style.RowStyle.TheVariants.{Plain, Formed, Going}
use Rattle.fisca_forms.specs.LineForms.{Form}
use Rattle.fisca_inputs.specs.declared.fault.SituationFault.{SituationFault}
use Rattle.fisca_inputs.specs.declared.given.Given.{Given}
use Rattle.fisca_model.specs.EvalFaults.{name_of}
use Rattle.fisca_model.specs.declared.eval_fault.EvalFault.{EvalFault}
use Rattle.fisca_params.specs.Tree.{TreeNode}
use Rattle.fisca_api.specs.Alike.{AreAlike}
use Rattle.fisca_rules.specs.Rules.{Rules}
use Rattle.fisca_rules.specs.declared.rule_set.RuleSet.{RuleSet}
use Rattle.fisca_run_file.specs.Positions.{moved_at, situation_with}
use Rattle.fisca_run_file.specs.RunFiles.{RunFile, run_file_of}
use Rattle.fisca_simulation.specs.Told.{told_in}
use Rattle.fisca_situations.specs.Situations.{Situation}
use Rattle.fisca_symbols.specs.Known.{tables as known}
use Rattle.fisca_symbols.specs.declared.choices.Choices.{Choices}
use Rattle.fisca_symbols.specs.declared.entity.Entity.{Entity}
use Rattle.fisca_symbols.specs.declared.tables.Tables.{Tables}
use Rattle.fisca_symbols.specs.declared.variable.Variable.{Variable}
use Rattle.fisca_test_file.specs.KeyFaults as tests
use Rattle.fisca_test_file.specs.Report.{test_context_of}
use Rattle.fisca_test_file.specs.Steps.Tests.{tests_of}
use Rattle.fisca_yaml.specs.Node.{Node}

-- Tables

abbrev made : List Entity → List Choices → List Variable → List TreeNode → Tables
made es cs vs ps = record { entities = es; enums = cs; variables = vs; parameters = ps }

module _ (a b : RuleSet) (alike : AreAlike a b) where
  pub same_tables : a.tables ≡ b.tables
  same_tables =
      λ i. made (ap (λ (r : Rules). r.entities) alike i) (ap (λ (r : Rules). r.enums) alike i) (ap (λ (r : Rules). r.variables) alike i) (ap (λ (r : Rules). r.parameters) alike i)

  -- Files

  pub same_run : (n : Node) → run_file_of a.tables n ≡ run_file_of b.tables n
  same_run n = ap (λ t. run_file_of t n) same_tables

  pub same_calc : (n : Node) → calc_of a.tables n ≡ calc_of b.tables n
  same_calc n = ap (λ t. calc_of t n) same_tables

  pub same_tests : (n : Node) → tests_of a.tables n ≡ tests_of b.tables n
  same_tests n = ap (λ t. tests_of t n) same_tables

  -- Rows

  module _ (style : RowStyle) (f : RunFile) (position : ℕ) where
    in_alike : (moved : List Given) (r : Result Situation SituationFault) → row_in a style f position moved r ≡ row_in b style f position moved r
    in_alike moved (Ok s) =
        ap₂ (λ t (v : Rules). styled_row style (known t) (told_in (record { rules = v; situation = s; neutral = f.neutral })) f.conditions f.columns position moved) same_tables alike
    in_alike moved (Err e) = refl

    with_alike : (o : Option (List Given)) → row_with a style f position o ≡ row_with b style f position o
    with_alike None = refl
    with_alike (Some moved) = ap (λ t. row_in a style f position moved (situation_with t f moved)) same_tables ∙ in_alike moved (situation_with b.tables f moved)

    pub same_row : run_row a style f position ≡ run_row b style f position
    same_row = ap (λ t. row_with a style f position (moved_at t f position)) same_tables ∙ with_alike (moved_at b.tables f position)

    lacks_alike : (r : Result Situation SituationFault) → lacks_with a style f r ≡ lacks_with b style f r
    lacks_alike (Ok s) = ap (λ (v : Rules). lacks_in style (told_in (record { rules = v; situation = s; neutral = f.neutral })) f.conditions f.columns) alike
    lacks_alike (Err e) = refl

    of_alike : (o : Option (List Given)) → lacks_of a style f o ≡ lacks_of b style f o
    of_alike None = refl
    of_alike (Some moved) = ap (λ t. lacks_with a style f (situation_with t f moved)) same_tables ∙ lacks_alike (situation_with b.tables f moved)

    pub same_lacks : lacks_at a style f position ≡ lacks_at b style f position
    same_lacks = ap (λ t. lacks_of a style f (moved_at t f position)) same_tables ∙ of_alike (moved_at b.tables f position)

  pub same_column : (asked : Calc) (form : Option Form) (lead : Option ℕ) (place : ℕ)
      → calc.row_of (record { rules = a; asked = asked }) form lead place ≡ calc.row_of (record { rules = b; asked = asked }) form lead place
  same_column asked form lead place =
      ap₂ (λ t (v : Rules). column_row_in form lead (known t) asked.situation.members (told_in (record { rules = v; situation = asked.situation; neutral = [] })) asked.columns place)
      same_tables alike

  pub same_context : test_context_in a ≡ test_context_in b
  same_context =
      ap₂ (λ t (v : Rules). test_context_of (known t) (λ s. told_in (record { rules = v; situation = s; neutral = [] })) name_of tests.key_told) same_tables alike

-- Styles

-- styles of one form give the same rows
module _ (s t : RowStyle) (same : styled_row s ≡ styled_row t) (rules : RuleSet) (f : RunFile) (position : ℕ) where
  in_style : (moved : List Given) (r : Result Situation SituationFault) → row_in rules s f position moved r ≡ row_in rules t f position moved r
  in_style moved (Ok x) = ap (λ row. row (known rules.tables) (told_in (simulation_in rules f x)) f.conditions f.columns position moved) same
  in_style moved (Err e) = refl

  with_style : (o : Option (List Given)) → row_with rules s f position o ≡ row_with rules t f position o
  with_style None = refl
  with_style (Some moved) = in_style moved (situation_with rules.tables f moved)

  pub row_in_style : run_row rules s f position ≡ run_row rules t f position
  row_in_style = with_style (moved_at rules.tables f position)

pub same_styles : (form : Form) (keeps_going : Bool) (s t : RowStyle) → IsStyleOf form keeps_going s → IsStyleOf form keeps_going t → styled_row s ≡ styled_row t
same_styles form keeps_going Plain Plain a b = refl
same_styles form keeps_going Plain (Formed y) a b = absurd (true≢false (sym a.1 ∙ b.1))
same_styles form keeps_going Plain (Going y) a b = absurd (true≢false (sym b.0 ∙ a.0))
same_styles form keeps_going (Formed x) Plain a b = absurd (true≢false (sym b.1 ∙ a.1))
same_styles form keeps_going (Formed x) (Formed y) a b = ap (λ (shown : Form). asked_row_in {F = EvalFault} (Some shown)) (a.2 ∙ sym b.2)
same_styles form keeps_going (Formed x) (Going y) a b = absurd (true≢false (sym b.0 ∙ a.0))
same_styles form keeps_going (Going x) Plain a b = absurd (true≢false (sym a.0 ∙ b.0))
same_styles form keeps_going (Going x) (Formed y) a b = absurd (true≢false (sym a.0 ∙ b.0))
same_styles form keeps_going (Going x) (Going y) a b = ap going_row (a.1 ∙ sym b.1)
