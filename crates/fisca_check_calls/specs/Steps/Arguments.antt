-- The steps of code behind `Arguments`:
-- The arguments of the theory that those in memory stand for.
use Rattle.std.specs.Prelude.{List, [], ◌∷◌, Result, Ok}
use Rattle.fisca_ast.specs.declared.fault.FormulaKind.{FormulaKind}
use Rattle.fisca_typing.specs.Calls as typing
use Rattle.fisca_typing.specs.Types.{bad_type}

-- one argument, two, and three

abbrev pub single : List typing.Settled → Result typing.Settled FormulaKind
single (a ∷ []) = Ok a
single _ = bad_type

abbrev pub pair : List typing.Settled → Result (typing.Settled × typing.Settled) FormulaKind
pair (a ∷ b ∷ []) = Ok (a, b)
pair _ = bad_type

abbrev pub triple : List typing.Settled → Result (typing.Settled × typing.Settled × typing.Settled) FormulaKind
triple (a ∷ b ∷ c ∷ []) = Ok (a, b, c)
triple _ = bad_type
