-- The numbers and the plain names of the kinds of faults.
use Rattle.std.specs.Prelude.{ℕ, List, codes}
use Rattle.fisca_ast.specs.declared.fault.FormulaKind.{FormulaKind}
use Rattle.fisca_ast.specs.declared.fault.FormulaKind.TheVariants.{Syntax, Indent, Unsupported, UnknownName, UnknownVariable, UnknownParameter, BadType, BadLevel, BadAttribute, DuplicateName, TooDeep, TooLong, Memory}

abbrev pub name_of : FormulaKind → List ℕ
name_of Syntax = codes "Syntax"
name_of Indent = codes "Indent"
name_of Unsupported = codes "Unsupported"
name_of UnknownName = codes "UnknownName"
name_of UnknownVariable = codes "UnknownVariable"
name_of UnknownParameter = codes "UnknownParameter"
name_of BadType = codes "BadType"
name_of BadLevel = codes "BadLevel"
name_of BadAttribute = codes "BadAttribute"
name_of DuplicateName = codes "DuplicateName"
name_of TooDeep = codes "TooDeep"
name_of TooLong = codes "TooLong"
name_of Memory = codes "Memory"

abbrev pub number_of : FormulaKind → ℕ
number_of Syntax = 1
number_of Indent = 2
number_of Unsupported = 3
number_of UnknownName = 4
number_of UnknownVariable = 5
number_of UnknownParameter = 6
number_of BadType = 7
number_of BadLevel = 8
number_of BadAttribute = 9
number_of DuplicateName = 10
number_of TooDeep = 11
number_of TooLong = 12
number_of Memory = 13
