-- What is spelled on a line is read.
use Rattle.std.proofs.Common.{◌≡◌, ℕ, List, [], ◌∷◌, ◌++◌, Bool, true, false, Option, Some, None, refl, ap, subst, ◌∙◌}
use Rattle.std.specs.Prelude.{Ok, codes}
use Rattle.std.specs.Str.{bytes_eq}
use Rattle.std.proofs.lemmas.Slice.Eq.{bytes_eq-Decides}
use Rattle.fisca_lexer.specs.declared.token.Mark.TheVariants as mark
use Rattle.fisca_time.specs.Instant.{CivilDate}
use Rattle.fisca_expr_parser.specs.declared.sign.Sign.{Sign}
use Rattle.fisca_expr_parser.specs.declared.sign.Sign.TheVariants as sign
use Rattle.fisca_expr_parser.specs.declared.mode.Mode.{Mode}
use Rattle.fisca_expr_parser.specs.declared.mode.Mode.TheVariants as mode
use Rattle.fisca_expr_parser.specs.Steps.Marks.{same_mark}
use Rattle.fisca_ast.specs.Tree.{Tree}
use Rattle.fisca_ast.specs.Steps.Words.{is_name, is_keyword}
use Rattle.fisca_expr_parser.proofs.Laws.{expression_only}
use Rattle.fisca_parser.specs.declared.heading.Base.{Base}
use Rattle.fisca_parser.specs.declared.heading.Base.TheVariants as base
use Rattle.fisca_ast.specs.declared.module.Signature.{Signature}
use Rattle.fisca_parser.specs.declared.shape.Shape.TheVariants as shape
use Rattle.fisca_parser.specs.Steps.Shapes.{shape_of}
use Rattle.fisca_parser.specs.Steps.Starts.{start_of}
use Rattle.fisca_parser.specs.Headings.{limit, alone, assignment, returned, labelled, class_heading, signature, definition_heading}
use Rattle.fisca_parser.specs.Steps.Headings.{base_of, start, other_name, third_name, third}
use Rattle.fisca_ast.specs.Modules.{Formula}
use Rattle.fisca_parser.specs.Grammar.{IsText, IsPass, IsImport, IsAssignment, IsReturn, IsLabelled, IsClass, IsSignature, IsThird, IsDefinition, base_word, spelled_third, spelled_comma}

-- headings

pub assignment-read : (m : Mode) (ts : List Sign) (n : List ℕ) (e : Tree) → IsAssignment m ts n e → assignment m ts ≡ Ok ((n, e), [])
unfolding same_mark
assignment-read m ts n e is = rw (is.spelled, is.named, expression_only m limit is.rest e is.value.expression is.value.low) refl

pub returned-read : (ts : List Sign) (e : Tree) → IsReturn ts e → returned mode.Formula ts ≡ Ok (e, [])
returned-read ts e is = rw (is.spelled, expression_only mode.Formula limit is.rest e is.value.expression is.value.low) refl

pub labelled-read : (ts : List Sign) (n t : List ℕ) → IsLabelled ts n t → labelled ts ≡ Ok ((n, t), [])
unfolding same_mark
labelled-read ts n t is = rw (is.spelled, is.named) refl

pub alone-read : (ts : List Sign) → IsPass ts → alone ts ≡ Ok (tt, [])
alone-read ts is = rw is refl

class-by : (n : List ℕ) (b : Base) → is_name n ≡ true → class_heading (sign.Word (codes "class") ∷ sign.Word n ∷ sign.Mark mark.Open ∷ sign.Word (base_word b) ∷ sign.Mark mark.Close ∷ sign.Mark mark.Colon ∷ []) ≡ Ok ((n, b), [])
unfolding same_mark base_of
class-by n base.Enum e = rw e refl
class-by n base.Variable e = rw e refl

pub class-read : (ts : List Sign) (n : List ℕ) (b : Base) → IsClass ts n b → class_heading ts ≡ Ok ((n, b), [])
class-read ts n b is = ap class_heading is.spelled ∙ class-by n b is.named

-- shapes

-- a name is no keyword
no_keyword : (t w : List ℕ) → is_name t ≡ true → is_name w ≡ false → bytes_eq t w ≡ false
no_keyword t w e f = by (bytes_eq t w) refl where
  by : (b : Bool) → bytes_eq t w ≡ b → bytes_eq t w ≡ false
  by true p = let same : t ≡ w = (bytes_eq-Decides t w).0 p in let two : is_name w ≡ true = subst (λ t. is_name t ≡ true) same e in cc
  by false p = p

import_word : is_name (codes "import") ≡ false
unfolding is_keyword
import_word = refl

from_word : is_name (codes "from") ≡ false
unfolding is_keyword
from_word = refl

pass_word : is_name (codes "pass") ≡ false
unfolding is_keyword
pass_word = refl

class_word : is_name (codes "class") ≡ false
unfolding is_keyword
class_word = refl

def_word : is_name (codes "def") ≡ false
unfolding is_keyword
def_word = refl

return_word : is_name (codes "return") ≡ false
unfolding is_keyword
return_word = refl

pub assigned-shape : (t : List ℕ) (us : List Sign) → is_name t ≡ true → shape_of (sign.Word t ∷ sign.Mark mark.Equal ∷ us) ≡ shape.Assignment
unfolding shape_of same_mark
assigned-shape t us e =
    let a = no_keyword t (codes "import") e import_word in
    let b = no_keyword t (codes "from") e from_word in
    let c = no_keyword t (codes "pass") e pass_word in
    let d = no_keyword t (codes "class") e class_word in
    let f = no_keyword t (codes "def") e def_word in
    let g = no_keyword t (codes "return") e return_word in
    rw (a, b, c, d, f, g, e) refl

pub text-shape : (ts : List Sign) → IsText ts → shape_of ts ≡ shape.Text
unfolding shape_of
text-shape ts is = rw is.1 refl

pub pass-shape : (ts : List Sign) → IsPass ts → shape_of ts ≡ shape.Pass
unfolding shape_of
pass-shape ts is = rw is refl

pub import-shape : (ts : List Sign) → IsImport ts → shape_of ts ≡ shape.Import
unfolding shape_of
import-shape ts is = rw (is.2, is.3) refl

pub class-shape : (us : List Sign) → shape_of (sign.Word (codes "class") ∷ us) ≡ shape.Class
unfolding shape_of
class-shape us = refl

pub definition-shape : (us : List Sign) → shape_of (sign.Word (codes "def") ∷ us) ≡ shape.Definition
unfolding shape_of
definition-shape us = refl

pub return-shape : (us : List Sign) → shape_of (sign.Word (codes "return") ∷ us) ≡ shape.Return
unfolding shape_of
return-shape us = refl

-- formulas

start-read : (t : List ℕ) (us : List Sign) (d : CivilDate) → is_name t ≡ true → start_of t ≡ Some d → start (sign.Word t ∷ us) ≡ Ok (d, us)
unfolding start
start-read t us d n s = rw (n, s) refl

other-read : (a b : List ℕ) (us : List Sign) → is_name b ≡ true → bytes_eq b a ≡ false → other_name a (sign.Word b ∷ us) ≡ Ok (b, us)
unfolding other_name
other-read a b us n e = rw (e, n) refl

third_name-read : (a b c : List ℕ) (us : List Sign) → is_name c ≡ true → bytes_eq c a ≡ false → bytes_eq c b ≡ false → third_name a b (sign.Word c ∷ us) ≡ Ok (c, us)
unfolding third_name
third_name-read a b c us n e f = rw e (other-read b c us n f)

abbrev closing : List Sign
closing = sign.Mark mark.Close ∷ sign.Mark mark.Colon ∷ []

third-read : (a b : List ℕ) (o : Option (List ℕ)) (comma : Bool) → IsThird a b o → third a b ((spelled_third o ++ spelled_comma comma) ++ closing) ≡ Ok (o, closing)
unfolding third same_mark
third-read a b None true is = refl
third-read a b None false is = refl
third-read a b (Some c) true is = rw (third_name-read a b c (sign.Mark mark.Comma ∷ closing) is.0 is.1 is.2) refl
third-read a b (Some c) false is = rw (third_name-read a b c closing is.0 is.1 is.2) refl

signature-read : (between : List Sign) (s : Signature) → IsSignature between s → signature (between ++ closing) ≡ Ok (s, closing)
unfolding same_mark
signature-read between s is =
    ap (λ ts. signature (ts ++ closing)) is.spelled
    ∙ rw (is.entity, other-read s.entity s.period ((spelled_third s.parameters ++ spelled_comma is.comma) ++ closing) is.period is.apart, third-read s.entity s.period s.parameters is.comma is.third) refl

pub definition-read : (ts : List Sign) (f : Formula) → IsDefinition ts f → definition_heading ts ≡ Ok ((f.start, f.signature), [])
unfolding same_mark
definition-read ts f is =
    ap definition_heading is.spelled
    ∙ rw (start-read is.name (sign.Mark mark.Open ∷ (is.between ++ closing)) f.start is.named is.started, signature-read is.between f.signature is.signature) refl
