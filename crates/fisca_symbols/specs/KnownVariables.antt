-- What formulas may name of variables.
use Rattle.std.specs.Prelude.{◌≡◌, ℕ, List, map, Option, Some, None}
use Rattle.std.specs.Str.{bytes_eq}
use Rattle.fisca_symbols.specs.declared.variable.DeclaredType.{DeclaredType}
use Rattle.fisca_symbols.specs.declared.variable.DeclaredType.TheVariants as declared
use Rattle.fisca_symbols.specs.declared.variable.Variable.{Variable}
use Rattle.fisca_model.specs.declared.value_type.ValueType.{ValueType}
use Rattle.fisca_model.specs.declared.value_type.ValueType.TheVariants as vt
use Rattle.fisca_model.specs.Tables as typing
use Rattle.indexmap.specs.IndexMap.{IndexMap, get}

-- dates and texts have no type in formulas
abbrev pub value_type : DeclaredType → Option ValueType
value_type declared.Float = Some vt.Number
value_type declared.Int = Some vt.Number
value_type declared.Bool = Some vt.Bool
value_type declared.Date = None
value_type declared.Text = None
value_type (declared.Enum e) = Some (vt.Enum e)

abbrev pub variable : Variable → typing.Variable
variable v = record { name = v.name; entity = v.entity; value_type = value_type v.value_type; definition_period = v.definition_period }

-- each text leads to the first variable of this name
abbrev pub AreFound : {S : Type 0} → List Variable → IndexMap (List ℕ) ℕ S → Type 0
AreFound vs names = (t : List ℕ) → get bytes_eq names t ≡ typing.place_in (λ v. bytes_eq v.name t) (map variable vs)
