-- Elements of lists, one after another.
use Rattle.std.specs.Prelude.{ℕ, List, [], ◌∷◌, Result, Ok, if◌then◌else◌}
use Rattle.fisca_ir.specs.Views.{all_things}
use Rattle.fisca_num.specs.Results.{and_then}
use Rattle.fisca_ast.specs.declared.fault.FormulaKind.{FormulaKind}
use Rattle.fisca_typing.specs.Calls.{CallArgument}
use Rattle.fisca_ast.specs.Steps.Contents.{content}
use Rattle.fisca_typing.specs.Things.{Thing, listed, text}
use Rattle.fisca_typing.specs.Types.{bad_type}
use Rattle.fisca_typing.specs.Typing.{is_positional}

-- what it stands for is judged before its keyword
abbrev pub element_of : CallArgument → Result Thing FormulaKind
element_of g = and_then g.thing (λ x. if is_positional g.keyword then Ok x else bad_type)

abbrev pub all_elements : List CallArgument → Result (List Thing) FormulaKind
all_elements [] = Ok []
all_elements (g ∷ gs) = and_then (element_of g) (λ x. and_then (all_elements gs) (λ xs. Ok (x ∷ xs)))

abbrev pub list_view : List CallArgument → Result Thing FormulaKind
list_view gs = and_then (all_elements gs) (λ xs. Ok (listed (all_things xs)))

-- a text in quotes
abbrev pub text_said : List ℕ → Result Thing FormulaKind
text_said t = Ok (text (content t))
