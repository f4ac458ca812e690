-- Formulas among the lines of a variable, one after another, up to the first fault.
use Rattle.std.proofs.Common.{◌≡◌, ◌∙◌, sym, ap, List, [], ◌∷◌, ◌++◌, map}
use Rattle.std.specs.Prelude.{Result, Ok, Err}
use Rattle.fisca_num.specs.Results.{and_then}
use Rattle.fisca_ast.specs.Modules.{Formula}
use Rattle.fisca_ast.specs.ModuleViews.{formula_view}
use Rattle.fisca_ast.specs.declared.module.ClassLine.{ClassLine}
use Rattle.fisca_declarations.specs.FormulaLines.{formulas_in}
use Rattle.fisca_rules.proofs.Each.{all_behind, all_behind_none}
use Rattle.fisca_rules.specs.Rules.{all_of}

abbrev pub formulas : List ClassLine → List Formula
formulas lines = map formula_view (formulas_in lines)

-- a formula that has a fault
pub refused : {Y E : Type 0} (make : Formula → Result Y E) (done : List Y) (fault : E) (f : Formula) (lines rest : List ClassLine) (all : List Formula)
    → all_behind make done (formulas lines) ≡ all_behind make [] all → formulas lines ≡ f ∷ formulas rest → make f ≡ Err fault → all_of make all ≡ Err fault
refused make done fault f lines rest all h cut is =
    sym (all_behind_none make all) ∙ sym h ∙ ap (λ fs. all_behind make done fs) cut ∙ ap (λ o. and_then o (λ y. all_behind make (done ++ y ∷ []) (formulas rest))) is

-- no line is left
pub all_made : {Y E : Type 0} (make : Formula → Result Y E) (done : List Y) (lines : List ClassLine) (all : List Formula)
    → all_behind make done (formulas lines) ≡ all_behind make [] all → lines ≡ [] → all_of make all ≡ Ok done
all_made make done lines all h none = sym (all_behind_none make all) ∙ sym h ∙ ap (λ ls. all_behind make done (formulas ls)) none
