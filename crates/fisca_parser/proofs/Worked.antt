-- The definition of modules beside its sentences.
use Rattle.std.proofs.Common.{◌≡◌, ℕ, List, [], ◌∷◌, ◌++◌, true, false, refl}
use Rattle.std.specs.Prelude.{codes, Ok, Err, Some, None}
use Rattle.fisca_ast.specs.declared.fault.FormulaKind.TheVariants as kind
use Rattle.fisca_lexer.specs.declared.token.Mark.TheVariants as mark
use Rattle.fisca_lexer.specs.Tokens.{tokens_from}
use Rattle.fisca_expr_parser.specs.declared.sign.Sign.{Sign}
use Rattle.fisca_expr_parser.specs.declared.sign.Sign.TheVariants as sign
use Rattle.fisca_ast.specs.declared.tree.Delimiter.TheVariants as bracket
use Rattle.fisca_ast.specs.declared.tree.Suffix.TheVariants as suffix
use Rattle.fisca_expr_parser.specs.Steps.Marks.{same_mark}
use Rattle.fisca_expr_parser.specs.Reading.{reads, climb, operand, joined, compared}
use Rattle.fisca_ast.specs.Tree.{Tree, name, bracketed, attribute as member, applied, nothing, last, next, positional}
use Rattle.fisca_ast.specs.Words.{is_left_out}
use Rattle.fisca_ast.specs.Steps.Words.{is_keyword, is_atom}
use Rattle.fisca_parser.specs.declared.shape.Shape.TheVariants as shape
use Rattle.fisca_parser.specs.Steps.Forms.{is_entity, is_list_of_names, is_week_unit, declared, is_week_attribute}
use Rattle.fisca_parser.specs.Steps.Headings.{base_of, start, other_name, third_name, third}
use Rattle.fisca_parser.specs.Lines.{fault}
use Rattle.fisca_ast.specs.Modules.{choices, variable, formula}
use Rattle.fisca_parser.specs.Reading.{module_of, block, module_line, class_at, enum_line, variable_line, formula_at, body, body_line, documented}
use Rattle.fisca_parser.specs.Steps.Shapes.{shape_of}
use Rattle.fisca_parser.specs.Steps.Starts.{start_of}

abbrev w : List ℕ → Sign
w = sign.Word

abbrev line_feed : List ℕ
line_feed = 10 ∷ []

-- Shapes: the beginning of a line says which statement it is.

assigns : shape_of (w (codes "a") ∷ sign.Mark mark.Equal ∷ []) ≡ shape.Assignment
unfolding shape_of same_mark is_keyword
assigns = refl

keyword_assigned : shape_of (w (codes "True") ∷ sign.Mark mark.Equal ∷ []) ≡ shape.Other kind.Syntax
unfolding shape_of same_mark is_keyword
keyword_assigned = refl

call_alone : shape_of (w (codes "f") ∷ sign.Mark mark.Open ∷ []) ≡ shape.Other kind.Unsupported
unfolding shape_of same_mark
call_alone = refl

augmented : shape_of (w (codes "a") ∷ sign.Mark mark.Augmented ∷ []) ≡ shape.Other kind.Unsupported
unfolding shape_of same_mark
augmented = refl

text_and_more : shape_of (sign.Text (codes "'a'") ∷ sign.Mark mark.Plus ∷ []) ≡ shape.Other kind.Unsupported
unfolding shape_of
text_and_more = refl

closing_first : shape_of (sign.Mark mark.Close ∷ []) ≡ shape.Other kind.Syntax
unfolding shape_of
closing_first = refl

-- Names of formulas: missing parts are 1, and the day has to exist.

whole_time : start_of (codes "formula") ≡ Some (record { year = 1; month = 1; day = 1 })
unfolding start_of
whole_time = refl

year : start_of (codes "formula_2016") ≡ Some (record { year = 2016; month = 1; day = 1 })
unfolding start_of
year = refl

leap_day : start_of (codes "formula_2016_02_29") ≡ Some (record { year = 2016; month = 2; day = 29 })
unfolding start_of
leap_day = refl

no_leap_day : start_of (codes "formula_2015_02_29") ≡ None
unfolding start_of
no_leap_day = refl

year_0 : start_of (codes "formula_0000") ≡ None
unfolding start_of
year_0 = refl

one_digit : start_of (codes "formula_2016_1") ≡ None
unfolding start_of
one_digit = refl

helper : start_of (codes "helper") ≡ None
unfolding start_of
helper = refl

-- Values of a module's declarations.

abbrev grouped : Tree → Tree
grouped e = bracketed bracket.Round (last (positional e))

call : is_entity (applied suffix.Call (name (codes "build_entity")) nothing) ≡ true
call = refl

empty_list : is_list_of_names (bracketed bracket.Square nothing) ≡ true
empty_list = refl

names_with_comma : is_list_of_names (bracketed bracket.Square (next (positional (name (codes "a"))) nothing)) ≡ true
unfolding is_keyword
names_with_comma = refl

tuple_of_names : is_list_of_names (bracketed bracket.Round (last (positional (name (codes "a"))))) ≡ false
tuple_of_names = refl

-- parentheses group alone, however many

grouped_call : is_entity (applied suffix.Call (grouped (name (codes "build_entity"))) nothing) ≡ true
grouped_call = refl

grouped_entity : is_entity (grouped (grouped (applied suffix.Call (name (codes "build_entity")) nothing))) ≡ true
grouped_entity = refl

grouped_names : is_list_of_names (grouped (bracketed bracket.Square (last (positional (grouped (name (codes "a"))))))) ≡ true
unfolding is_keyword
grouped_names = refl

grouped_week : is_week_unit (grouped (member (grouped (name (codes "DateUnit"))) (codes "WEEK"))) ≡ true
grouped_week = refl

weekday : is_week_unit (member (name (codes "DateUnit")) (codes "WEEKDAY")) ≡ true
weekday = refl

day : is_week_unit (member (name (codes "DateUnit")) (codes "DAY")) ≡ false
day = refl

-- Imports and texts that stand alone declare nothing, and an open bracket joins all that follows it to its line.

import_lines : module_of (codes "from a import (b" ++ line_feed ++ codes "x = y") ≡ Ok []
unfolding tokens_from block module_line shape_of
import_lines = refl

-- Any other statement is left out, and is told of its line.

other_value : module_of (codes "'a'" ++ line_feed ++ codes "x = y") ≡ Err (fault 2 kind.Unsupported)
unfolding tokens_from block module_line shape_of same_mark is_keyword is_atom is_left_out reads climb operand joined compared declared
other_value = refl

-- A line that is deeper than its block has no place.

deeper_line : module_of (codes "import a" ++ line_feed ++ codes "  import b") ≡ Err (fault 2 kind.Indent)
unfolding tokens_from block module_line shape_of
deeper_line = refl

-- An Enum has members; `pass` and texts alone are no members.

enum : module_of (codes "class A(Enum):" ++ line_feed ++ codes "  pass" ++ line_feed ++ codes "  a = 'b' 'c'") ≡ Ok (choices 1 (codes "A") (record { line = 3; name = codes "a"; text = codes "'b' 'c'" } ∷ []) ∷ [])
unfolding tokens_from block module_line class_at enum_line shape_of base_of same_mark is_keyword
enum = refl

-- A body that is missing is told of the line that follows, or of the last one.

no_body : module_of (codes "class A(Enum):" ++ line_feed ++ codes "import b") ≡ Err (fault 2 kind.Syntax)
unfolding tokens_from block module_line class_at shape_of base_of same_mark is_keyword
no_body = refl

body_on_the_line : module_of (codes "class A(Enum): pass") ≡ Err (fault 1 kind.Syntax)
unfolding tokens_from block module_line class_at shape_of base_of same_mark is_keyword is_left_out
body_on_the_line = refl

-- A formula has two names or three, all different, perhaps a text, locals, and one `return`.

abbrev variable_with : List ℕ → List ℕ
variable_with body = codes "class s(Variable):" ++ line_feed ++ body

full : module_of (variable_with (codes " def formula(a, b,):" ++ line_feed ++ codes "  'c'" ++ line_feed ++ codes "  x = a" ++ line_feed ++ codes "  return x"))
    ≡ Ok (variable 1 (codes "s") (formula (record {
      line = 2;
      start = record { year = 1; month = 1; day = 1 };
      signature = record { entity = codes "a"; period = codes "b"; parameters = None };
      locals = record { line = 4; name = codes "x"; value = name (codes "a") } ∷ [];
      returned = record { line = 5; value = name (codes "x") };
    }) ∷ []) ∷ [])
unfolding tokens_from block module_line class_at variable_line formula_at documented body body_line shape_of base_of start start_of other_name third_name third same_mark is_keyword is_atom is_left_out reads climb operand joined compared
full = refl

one_name : module_of (variable_with (codes " def formula(a):" ++ line_feed ++ codes "  return a")) ≡ Err (fault 2 kind.Syntax)
unfolding tokens_from block module_line class_at variable_line formula_at shape_of base_of start start_of other_name third_name third same_mark is_keyword is_left_out
one_name = refl

no_return : module_of (variable_with (codes " def formula(a, b):" ++ line_feed ++ codes "  x = a" ++ line_feed ++ codes " y = b")) ≡ Err (fault 4 kind.Syntax)
unfolding tokens_from block module_line class_at variable_line formula_at documented body body_line shape_of base_of start start_of other_name third_name third same_mark is_keyword is_atom is_left_out reads climb operand joined compared
no_return = refl

second_return : module_of (variable_with (codes " def formula(a, b):" ++ line_feed ++ codes "  return a" ++ line_feed ++ codes "  return b")) ≡ Err (fault 4 kind.Unsupported)
unfolding tokens_from block module_line class_at variable_line formula_at documented body body_line shape_of base_of start start_of other_name third_name third same_mark is_keyword is_atom is_left_out reads climb operand joined compared
second_return = refl

-- Weeks are left out as the value of `definition_period` alone.

week : module_of (variable_with (codes " definition_period = WEEK")) ≡ Err (fault 2 kind.Unsupported)
unfolding tokens_from block module_line class_at variable_line shape_of base_of same_mark is_keyword is_atom is_left_out reads climb operand joined compared is_week_attribute
week = refl
