-- What `read_module` answers is the module of the text.
use Rattle.std.proofs.Common.{◌≡◌, ℕ, List, Ok, Err, sym, ◌∙◌}
use Rattle.std.specs.Prelude.{Result, IfOk}
use Rattle.fisca_ast.specs.declared.fault.FormulaFault.{FormulaFault}
use Rattle.fisca_ast.specs.declared.module.Module.{Module}
use Rattle.fisca_parser.specs.Grammar.{IsModule}
use Rattle.fisca_parser.specs.Reading.{Tells, Read, module_of}
use Rattle.fisca_ast.specs.ModuleViews.{statements}
use Rattle.fisca_parser.specs.Views.{Finds}
use Rattle.fisca_parser.proofs.Declared.{module_found}
use Rattle.fisca_parser.proofs.Whole.{module_read}
use Rattle.fisca_ast.specs.Modules.{Statement}

abbrev found : List Statement → Read
found ss = Ok ss

pub text_found : (text : List ℕ) (r : Result Module FormulaFault) → Tells statements (module_of text) r → IfOk r (λ m. IsModule text (statements m))
text_found text (Ok m) t = module_found text (statements m) t
text_found text (Err f) t = tt

pub text_only : (text : List ℕ) (r : Result Module FormulaFault) → Tells statements (module_of text) r → (ss : List Statement) → IsModule text ss → Finds ss r
text_only text (Ok m) t ss is = let e : found (statements m) ≡ found ss = sym t ∙ module_read text ss is in cc
text_only text (Err f) t ss is = λ other. let e : found ss ≡ Err f = sym (module_read text ss is) ∙ t other in cc

-- a text has one module at most
pub one_module : (text : List ℕ) (a b : List Statement) → IsModule text a → IsModule text b → a ≡ b
one_module text a b p q = let e : found a ≡ found b = sym (module_read text a p) ∙ module_read text b q in cc
