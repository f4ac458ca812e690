-- A rule set, pass after pass.
use Rattle.std.proofs.Common.{◌≡◌, ◌∙◌, ap, List, [], map}
use Rattle.std.specs.Prelude.{Ok, Err}
use Rattle.fisca_rules.specs.Build.{Whole}
use Rattle.fisca_rules.specs.Steps.Build.{declared_by, tables_of}
use Rattle.fisca_rules.specs.FirstPass.{placed_from}
use Rattle.fisca_rules.specs.declared.build_fault.BuildFault.{BuildFault}
use Rattle.fisca_num.specs.Results.{and_then}
use Rattle.fisca_params.specs.Tree.{TreeNode}
use Rattle.fisca_rules.specs.Rules.{DatedFormula, Rules}
use Rattle.fisca_rules.specs.Steps.Rules.{all_formulas, rules_of, with_formulas}
use Rattle.fisca_ast.specs.Modules.{Statement}
use Rattle.fisca_symbols.specs.Known as tables
use Rattle.fisca_symbols.specs.declared.tables.Tables.{Tables}
use Rattle.fisca_declarations.specs.VariableForms.{written}
use Rattle.fisca_declarations.specs.declared.declaration.Declaration.{Declaration}

-- what is declared, with the declarations of the variables
abbrev pub whole_of : Tables → List Declaration → Whole
whole_of t ds = record { entities = t.entities; enums = t.enums; variables = t.variables; declarations = map written ds }

pub tables_fault : (nodes : List TreeNode) (ms : List (List Statement)) (fault : BuildFault) → declared_by (placed_from 0 ms) ≡ Err fault → rules_of nodes ms ≡ Err fault
unfolding rules_of tables_of
tables_fault nodes ms fault d = ap (λ o. and_then o (with_formulas nodes)) d

found : (nodes : List TreeNode) (ms : List (List Statement)) (w : Whole) → declared_by (placed_from 0 ms) ≡ Ok w → rules_of nodes ms ≡ with_formulas nodes w
unfolding rules_of tables_of
found nodes ms w d = ap (λ o. and_then o (with_formulas nodes)) d

-- the rule set with these formulas
abbrev pub with_all : Tables → List Declaration → List (List DatedFormula) → Rules
with_all t ds fs = record { entities = t.entities; enums = t.enums; variables = t.variables; declarations = map written ds; parameters = t.parameters; formulas = fs }

pub formulas_fault : (ms : List (List Statement)) (t : Tables) (ds : List Declaration) (fault : BuildFault) →
    declared_by (placed_from 0 ms) ≡ Ok (whole_of t ds) → all_formulas (tables.tables t) t.variables (map written ds) ≡ Err fault → rules_of t.parameters ms ≡ Err fault
formulas_fault ms t ds fault d f = found t.parameters ms (whole_of t ds) d ∙ ap (λ o. and_then o (λ fs. Ok (with_all t ds fs))) f

pub built : (ms : List (List Statement)) (t : Tables) (ds : List Declaration) (fs : List (List DatedFormula)) →
    declared_by (placed_from 0 ms) ≡ Ok (whole_of t ds) → all_formulas (tables.tables t) t.variables (map written ds) ≡ Ok fs → rules_of t.parameters ms ≡ Ok (with_all t ds fs)
built ms t ds fs d f = found t.parameters ms (whole_of t ds) d ∙ ap (λ o. and_then o (λ gs. Ok (with_all t ds gs))) f
