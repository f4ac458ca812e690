-- What the names in a formula stand for.
use Rattle.std.specs.Prelude.{ℕ, List, [], ◌∷◌, Bool, true, false, if◌then◌else◌, Option, Some, None, option_map, ok_or, Result, Ok, Err, codes}
use Rattle.std.specs.Str.{bytes_eq}
use Rattle.fisca_ast.specs.Words.{is}
use Rattle.fisca_ast.specs.declared.fault.FormulaKind.{FormulaKind}
use Rattle.fisca_ast.specs.declared.fault.FormulaKind.TheVariants as kind
use Rattle.fisca_typing.specs.declared.asking.Asking.TheVariants as asking
use Rattle.fisca_typing.specs.declared.kinds.Level.TheVariants as level
use Rattle.fisca_model.specs.declared.value_type.ValueType.TheVariants as vt
use Rattle.fisca_typing.specs.declared.operations.Function.TheVariants as function
use Rattle.fisca_typing.specs.Nodes.{truth}
use Rattle.fisca_model.specs.Tables.{Tables, place_in, otherwise}
use Rattle.fisca_typing.specs.Things.{Thing, value, period, reader, enumeration, entity, asker, library, function as called_function, option}

pub record Local : Type 0 where
  pub name : List ℕ
  pub thing : Thing

-- the tables, the place of the formula's entity, the names of its arguments, and the earlier locals, the latest first
pub record Names : Type 0 where
  pub tables : Tables
  pub entity : ℕ
  pub asker_name : List ℕ
  pub period_name : List ℕ
  pub reader_name : Option (List ℕ)
  pub locals : List Local

abbrev pub unknown_name : {X : Type 0} → Result X FormulaKind
unknown_name = Err kind.UnknownName

abbrev pub local_named : List Local → List ℕ → Option Thing
local_named [] t = None
local_named (l ∷ ls) t = if bytes_eq l.name t then Some l.thing else local_named ls t

abbrev pub has_name : Option (List ℕ) → List ℕ → Bool
has_name None t = false
has_name (Some name) t = bytes_eq name t

abbrev pub argument_named : Names → List ℕ → Option Thing
argument_named c t =
    if bytes_eq c.asker_name t then Some asker
    else (if bytes_eq c.period_name t then Some (period [])
    else (if has_name c.reader_name t then Some reader else None))

abbrev pub constant_bool : Bool → Thing
constant_bool b = value (record { value_type = vt.Bool; level = level.Constant; node = truth b })

-- functions and constants of the language
unfoldable pub known_word : List ℕ → Option Thing
known_word t =
    if is t (codes "True") then Some (constant_bool true)
    else (if is t (codes "False") then Some (constant_bool false)
    else (if is t (codes "where") then Some (called_function function.Where)
    else (if is t (codes "select") then Some (called_function function.Select)
    else (if is t (codes "min_") then Some (called_function function.Min)
    else (if is t (codes "max_") then Some (called_function function.Max)
    else (if is t (codes "not_") then Some (called_function function.Not)
    else (if is t (codes "np") then Some library
    else (if is t (codes "numpy") then Some library
    else (if is t (codes "ADD") then Some (option asking.Add)
    else (if is t (codes "DIVIDE") then Some (option asking.Divide) else None))))))))))

-- functions that this project adds
unfoldable pub added_word : List ℕ → Option Thing
added_word t =
    if is t (codes "round_") then Some (called_function function.Round)
    else (if is t (codes "floor") then Some (called_function function.Floor)
    else (if is t (codes "ceil") then Some (called_function function.Ceil)
    else (if is t (codes "abs_") then Some (called_function function.Absolute)
    else (if is t (codes "clip") then Some (called_function function.Clip) else None))))

-- those that it adds behind `np` or `numpy`
unfoldable pub added_function : List ℕ → Result Thing FormulaKind
added_function t =
    if is t (codes "round") then Ok (called_function function.Round)
    else (if is t (codes "floor") then Ok (called_function function.Floor)
    else (if is t (codes "ceil") then Ok (called_function function.Ceil)
    else (if is t (codes "abs") then Ok (called_function function.Absolute)
    else (if is t (codes "absolute") then Ok (called_function function.Absolute)
    else (if is t (codes "clip") then Ok (called_function function.Clip)
    else (if is t (codes "logical_and") then Ok (called_function function.And)
    else (if is t (codes "logical_or") then Ok (called_function function.Or) else unknown_name)))))))

-- names of the functions behind `np` or `numpy`
unfoldable pub library_function : List ℕ → Result Thing FormulaKind
library_function t =
    if is t (codes "where") then Ok (called_function function.Where)
    else (if is t (codes "select") then Ok (called_function function.Select)
    else (if is t (codes "minimum") then Ok (called_function function.Min)
    else (if is t (codes "maximum") then Ok (called_function function.Max)
    else (if is t (codes "logical_not") then Ok (called_function function.Not)
    else added_function t))))

abbrev pub declared : Tables → List ℕ → Option Thing
declared c t =
    otherwise (option_map enumeration (place_in (λ e. bytes_eq e.name t) c.enums))
    (option_map entity (place_in (λ e. bytes_eq e.constant t) c.entities))

-- the latest local, else an argument, else a word of the language, else an Enum or an entity, else a function that is added: so it hides no name
abbrev pub named : Names → List ℕ → Result Thing FormulaKind
named c t =
    ok_or (otherwise (local_named c.locals t) (otherwise (argument_named c t) (otherwise (known_word t) (otherwise (declared c.tables t) (added_word t))))) kind.UnknownName
