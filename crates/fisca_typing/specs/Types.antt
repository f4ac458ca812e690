-- Types of values, and levels.
use Rattle.std.specs.Prelude.{Bool, true, false, ◌==◌, if◌then◌else◌, Result, Ok, Err}
use Rattle.fisca_ast.specs.declared.fault.FormulaKind.{FormulaKind}
use Rattle.fisca_ast.specs.declared.fault.FormulaKind.TheVariants as kind
use Rattle.fisca_typing.specs.declared.kinds.Level.{Level}
use Rattle.fisca_typing.specs.declared.kinds.Level.TheVariants as level
use Rattle.fisca_model.specs.declared.value_type.ValueType.{ValueType}
use Rattle.fisca_model.specs.declared.value_type.ValueType.TheVariants as vt

-- a bool counts as a number: 0 or 1
abbrev pub is_numeric : ValueType → Bool
is_numeric vt.Number = true
is_numeric vt.Bool = true
is_numeric (vt.Enum e) = false

abbrev pub is_number : ValueType → Bool
is_number vt.Number = true
is_number vt.Bool = false
is_number (vt.Enum e) = false

abbrev pub is_bool : ValueType → Bool
is_bool vt.Number = false
is_bool vt.Bool = true
is_bool (vt.Enum e) = false

abbrev pub bad_type : {X : Type 0} → Result X FormulaKind
bad_type = Err kind.BadType

abbrev pub bad_level : {X : Type 0} → Result X FormulaKind
bad_level = Err kind.BadLevel

-- the type of what is one or the other: of one type, or a number where one of them is a number and one a bool
abbrev pub common : ValueType → ValueType → Result ValueType FormulaKind
common vt.Number vt.Number = Ok vt.Number
common vt.Number vt.Bool = Ok vt.Number
common vt.Bool vt.Number = Ok vt.Number
common vt.Bool vt.Bool = Ok vt.Bool
common (vt.Enum e) (vt.Enum f) = if e == f then Ok (vt.Enum e) else bad_type
common _ _ = bad_type

-- the higher of two levels; a value of the group and values of its persons have none
abbrev pub higher : Level → Level → Result Level FormulaKind
higher level.Constant l = Ok l
higher level.Own level.Constant = Ok level.Own
higher level.Own level.Own = Ok level.Own
higher level.Own level.Members = bad_level
higher level.Members level.Constant = Ok level.Members
higher level.Members level.Own = bad_level
higher level.Members level.Members = Ok level.Members

abbrev pub is_of_members : Level → Bool
is_of_members level.Constant = false
is_of_members level.Own = false
is_of_members level.Members = true
