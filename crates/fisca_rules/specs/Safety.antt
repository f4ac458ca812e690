-- Rule sets whose formulas are never stuck, and whose defaults are of their types.
use Rattle.std.specs.Prelude.{◌≡◌, ⊤, ℕ, List, [], ◌∷◌, length, nat_lt, slice_get, Bool, true, false, Some, None}
use Rattle.fisca_typing.specs.Meaning.{formula_means}
use Rattle.fisca_model.specs.Groups.{Groups, Point}
use Rattle.fisca_typing.specs.Safe.{IsSafe}
use Rattle.fisca_typing.specs.Wellformed.{before_cast}
use Rattle.fisca_symbols.specs.KnownVariables.{value_type}
use Rattle.fisca_symbols.specs.declared.variable.DeclaredType.{DeclaredType}
use Rattle.fisca_symbols.specs.declared.variable.DeclaredType.TheVariants as type
use Rattle.fisca_symbols.specs.declared.variable.DefaultValue.{DefaultValue}
use Rattle.fisca_symbols.specs.declared.variable.DefaultValue.TheVariants as default
use Rattle.fisca_symbols.specs.declared.variable.Variable.{Variable}
use Rattle.fisca_model.specs.declared.value_type.ValueType.{ValueType}
use Rattle.fisca_model.specs.Tables.{Choices, Tables, members_of}
use Rattle.fisca_declarations.specs.Steps.VariableForms.{is_int}
use Rattle.fisca_rules.specs.Rules.{DatedFormula, Rules, known_by}

-- As long as its questions are answered by values of the variables' types, a formula of this variable gives a value of its type, before
-- that is cast, or tells a fault.
abbrev pub IsNeverStuck : Tables → Variable → DatedFormula → Type 0
IsNeverStuck c v d = (groups : Groups) (t : ValueType) → value_type v.value_type ≡ Some t → (p : Point) → IsSafe c (before_cast t) (formula_means c groups d.formula p)

abbrev pub AllNeverStuck : Tables → Variable → List DatedFormula → Type 0
AllNeverStuck c v [] = ⊤
AllNeverStuck c v (d ∷ ds) = IsNeverStuck c v d × AllNeverStuck c v ds

-- each variable has its formulas beside it
abbrev pub EachNeverStuck : Tables → List Variable → List (List DatedFormula) → Type 0
EachNeverStuck c [] [] = ⊤
EachNeverStuck c [] (ds ∷ more) = ⊥
EachNeverStuck c (v ∷ vs) [] = ⊥
EachNeverStuck c (v ∷ vs) (ds ∷ more) = AllNeverStuck c v ds × EachNeverStuck c vs more

abbrev pub AreNeverStuck : Rules → Type 0
AreNeverStuck r = EachNeverStuck (known_by r) r.variables r.formulas

-- Defaults

abbrev pub is_number : DefaultValue → Bool
is_number (default.Number n) = true
is_number _ = false

-- a whole number of 32 bits
abbrev pub is_whole : DefaultValue → Bool
is_whole (default.Number n) = is_int n
is_whole _ = false

abbrev pub is_bool : DefaultValue → Bool
is_bool (default.Bool b) = true
is_bool _ = false

abbrev pub is_date : DefaultValue → Bool
is_date (default.Date d) = true
is_date _ = false

abbrev pub is_text : DefaultValue → Bool
is_text (default.Text t) = true
is_text _ = false

-- one of so many members
abbrev pub is_member : ℕ → DefaultValue → Bool
is_member n (default.Member i) = nat_lt i n
is_member _ _ = false

-- a default of this type, where there are these Enums
abbrev pub is_default : List Choices → DeclaredType → DefaultValue → Bool
is_default es type.Float d = is_number d
is_default es type.Int d = is_whole d
is_default es type.Bool d = is_bool d
is_default es type.Date d = is_date d
is_default es type.Text d = is_text d
is_default es (type.Enum e) d = is_member (length (members_of (slice_get es e))) d

abbrev pub AllDefaultsFit : List Choices → List Variable → Type 0
AllDefaultsFit es [] = ⊤
AllDefaultsFit es (v ∷ vs) = (is_default es v.value_type v.default_value ≡ true) × AllDefaultsFit es vs

abbrev pub DefaultsFit : Rules → Type 0
DefaultsFit r = AllDefaultsFit (known_by r).enums r.variables

-- Days and texts

-- what no formula works out has none
abbrev pub AreUncomputed : List Variable → List (List DatedFormula) → Type 0
AreUncomputed [] [] = ⊤
AreUncomputed [] (ds ∷ more) = ⊥
AreUncomputed (v ∷ vs) [] = ⊥
AreUncomputed (v ∷ vs) (ds ∷ more) = (value_type v.value_type ≡ None → ds ≡ []) × AreUncomputed vs more

abbrev pub DaysAndTextsHaveNoFormulas : Rules → Type 0
DaysAndTextsHaveNoFormulas r = AreUncomputed r.variables r.formulas
